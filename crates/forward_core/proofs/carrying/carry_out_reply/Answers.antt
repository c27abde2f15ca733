use Rattle.std.proofs.Common.{ap, refl, ◌∙◌}
use Rattle.fab_policy.specs.Changes.{with_watch}
use Rattle.fab_policy.specs.Classes.{of_replied}
use Rattle.fab_policy.specs.declared.verdict.Verdict.TheVariants.{Watching}
use Rattle.forward_core.proofs.CarryLemmas.{changed}
use Rattle.forward_core.proofs.carrying.carry_out_reply.Goals as goal

pub returns-in-Watching : goal.returns-in-Watching
returns-in-Watching c =
    let function = c.in-Watching.function in
    changed c.tables_change.ensures.frame c.args.arrived.now (of_replied c.args.verdict) (Watching function) c.args.roster.now c.watch.new.self (ap of_replied c.in-Watching.is) refl (λ a p e. tt) _
    (ap (λ x. with_watch x.s_id function) (c.to.view_is ∙ c.requires.judged.1.rests.1)) c.watch.ensures.change c.watch.ensures.sound
