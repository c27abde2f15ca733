use Rattle.std.proofs.Common.{refl}
use Rattle.fip_codec.specs.Fip.{Request}
use Rattle.fip_codec.proofs.Present.{present}
use Rattle.fip_codec.proofs.reading.login.Goals as goal

pub frame_of-kind-requires-clause-there : goal.frame_of-kind-requires-clause-there
frame_of-kind-requires-clause-there c = present Request 7 _ c.requires.whole refl

pub mac_of-requires-clause-there : goal.mac_of-requires-clause-there
mac_of-requires-clause-there c = present Request 2 _ c.requires.whole refl
