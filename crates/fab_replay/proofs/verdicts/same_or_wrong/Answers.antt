use Rattle.std.proofs.Common.{sym, ◌∙◌}
use Rattle.fab_replay.proofs.SameLemmas.{same_is}
use Rattle.fab_replay.proofs.verdicts.same_or_wrong.Goals as goal

pub returns-then-eq : goal.returns-then-eq
returns-then-eq c = same_is _ _ (sym c.eq.ensures ∙ c.if-eq.true)
