use Rattle.std.proofs.Common.{length, refl}
use Rattle.forward_core.specs.Arrived.{caught_of}
use Rattle.forward_core.proofs.FrameLemmas.{sent_as}
use Rattle.forward_core.proofs.fabric.Fabric.register.Goals as goal

pub keep_frame-requires : goal.keep_frame-requires
keep_frame-requires c =
    let F = c.args.self.now in
    let frame = c.args.arrived.now in
    sent_as c.before-2.result F frame _ _ _ c.in_ok-sends.sends c.before-2.ensures.is refl refl
    (c.in_ok-sends.ensures (length F.events) (caught_of frame) c.requires.rests.1 c.requires.values.1)
