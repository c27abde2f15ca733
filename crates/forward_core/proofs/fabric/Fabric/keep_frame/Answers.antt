use Rattle.std.proofs.Common.{[], ◌∷◌, ◌++◌, sym, subst}
use Rattle.fab_policy.specs.declared.event.Event.{Event}
use Rattle.fab_sending.specs.Message.{AreSendable}
use Rattle.forward_core.specs.Arrived.{entry_of}
use Rattle.forward_core.proofs.TakeLemmas.{frame_there}
use Rattle.forward_core.proofs.fabric.Fabric.keep_frame.Goals as goal

pub keep-requires-clause-sendable : goal.keep-requires-clause-sendable
keep-requires-clause-sendable c =
    let events = c.args.self.now.events in
    let entry = entry_of c.args.arrived.now c.args.verdict in
    subst (λ (e : Event). AreSendable (events ++ e ∷ []) c.args.sends.outs) (sym c.in_ok-entry.ensures) (c.requires.sends.sendable (events ++ entry ∷ []) (frame_there c.args.arrived.now c.args.verdict events))
