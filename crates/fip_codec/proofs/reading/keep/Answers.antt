use Rattle.std.proofs.Common.{refl}
use Rattle.fip_codec.specs.Fip.{KeepAlive}
use Rattle.fip_codec.proofs.Present.{present}
use Rattle.fip_codec.proofs.reading.keep.Goals as goal

pub mac_of-requires-clause-there : goal.mac_of-requires-clause-there
mac_of-requires-clause-there c = present KeepAlive 2 _ c.requires.whole refl
