use Rattle.std.proofs.lemmas.Result.{on_ok_weaker}
use Rattle.fab_base.specs.Fabric.{Past}
use Rattle.std.proofs.Common.{ap, sym, ◌∙◌, ◌++◌}
use Rattle.fab_state.proofs.WriteLemmas.{had_some}
use Rattle.fab_state.proofs.writing.write_had.Goals as goal

pub returns-in-Some : goal.returns-in-Some
returns-in-Some c =
    on_ok_weaker c.write_past.result
    (λ e. e ∙ ap (λ l. c.args.out.now.items ++ l) (had_some c.args.past.now c.in-Some.name (ap (λ (q : Past). q.name) (sym c.past.view_is) ∙ c.in-Some.is)))
    c.write_past.ensures
