use Rattle.std.proofs.Common.{refl}
use Rattle.fip_codec.specs.Fip.{Reply}
use Rattle.fip_codec.proofs.Present.{present}
use Rattle.fip_codec.proofs.reading.login_reply.Goals as goal

pub frame_of-kind-requires-clause-there : goal.frame_of-kind-requires-clause-there
frame_of-kind-requires-clause-there c = present Reply 7 _ c.requires.whole refl
