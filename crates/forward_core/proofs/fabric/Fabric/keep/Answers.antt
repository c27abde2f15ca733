use Rattle.std.proofs.Common.{[], ◌∷◌, ◌++◌, ◌∙◌, ap, subst}
use Rattle.fab_policy.specs.Standing.{Contents}
use Rattle.forward_core.specs.Turns.{Keeps}
use Rattle.forward_core.specs.Fabric.{contents_of}
use Rattle.forward_core.proofs.KeepLemmas.{keeps}
use Rattle.forward_core.proofs.fabric.Fabric.keep.Goals as goal

pub returns-clause-ok : goal.returns-clause-ok
returns-clause-ok c =
    let i = c.self.inside in
    subst (λ (F : Contents). Keeps F c.args.entry c.args.sends (contents_of (record i { rscns = c.args.sends.rscns; events = c.push.new.self; outs = c.append.new.self }))) c.self.view_is
    (keeps c.messages_are_kept.ensures i c.self.invariant c.args.entry c.args.sends c.push.new.self c.append.new.self (c.in_ok-push.ensures.ok ∙ ap (λ l. l ++ c.args.entry ∷ []) c.make_room.ensures) (c.in-Ok.ensures.ok ∙ ap (λ l. l ++ c.args.sends.outs) c.make_room-2.ensures))
