use Rattle.std.proofs.Common.{refl, length}
use Rattle.forward_core.specs.Arrived.{caught_of}
use Rattle.forward_core.proofs.FrameLemmas.{sent_as}
use Rattle.forward_core.proofs.fabric.Fabric.reply.Goals as goal

pub keep_frame-requires : goal.keep_frame-requires
keep_frame-requires c = sent_as c.before-2.result c.args.self.now c.args.arrived.now _ _ _ c.in_ok-sends.sends c.before-2.ensures.is refl c.verdict.ensures (c.in_ok-sends.ensures (length c.args.self.now.events) (caught_of c.args.arrived.now) c.requires.values c.requires.rests.1)
