use Rattle.std.proofs.Common.{◌≡◌, true, Option, IfSome, length, refl, ap, subst, ◌∙◌}
use Rattle.fab_policy.specs.Changes.{with_values}
use Rattle.fab_policy.specs.State.{LivePort}
use Rattle.fab_policy.specs.declared.verdict.Verdict.TheVariants.{Registered}
use Rattle.ct_messages.specs.Ask.{view}
use Rattle.ct_messages.specs.CanWrite.{HasByte}
use Rattle.ct_messages.specs.Server.{is_registration}
use Rattle.heard_frames.specs.Heard.{s_id}
use Rattle.forward_core.specs.Arrived.{caught_of}
use Rattle.forward_core.proofs.CarryLemmas.{changed, found_one}
use Rattle.forward_core.proofs.carrying.register.Goals as goal

pub returns : goal.returns
returns c =
    let rests = c.requires.judged.1.rests in
    let asks = c.requires.judged.1.values.1 in
    changed c.tables_change.ensures.frame c.args.arrived.now Registered Registered c.args.roster.now c.register.new.self refl refl
    (λ a p e. (subst (λ ask. is_registration ask ≡ true) asks rests.0.registers, subst HasByte asks rests.0.byte, subst (λ (o : Option LivePort). IfSome o (λ q. length q.values.features ≡ 256)) e (found_one (λ q. length q.values.features ≡ 256) a c.args.roster.now.tables.ports c.requires.sound.features))) _
    (ap (λ x. with_values x.s_id (view c.args.ask.now)) (c.to.view_is ∙ rests.1) ∙ ap (λ ask. with_values (s_id (caught_of c.args.arrived.now)) ask) asks) c.register.ensures.change c.register.ensures.sound
