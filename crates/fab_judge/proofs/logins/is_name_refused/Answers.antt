use Rattle.std.proofs.Common.{◌==◌, ap, sym, ◌∙◌}
use Rattle.fab_judge.proofs.logins.is_name_refused.Goals as goal

pub returns-else-eq : goal.returns-else-eq
returns-else-eq c = λ c'. rw (ap (λ r. r.name == 0) (sym c.request.view_is) ∙ (sym c.eq.ensures ∙ c.if-eq.false)) (c.is_taken.ensures c')
