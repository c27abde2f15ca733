use Rattle.std.proofs.Common.{refl}
use Rattle.fip_codec.specs.Fip.{VlanNotification}
use Rattle.fip_codec.proofs.Present.{present}
use Rattle.fip_codec.proofs.reading.vlan_tell.Goals as goal

pub mac_of-requires-clause-there : goal.mac_of-requires-clause-there
mac_of-requires-clause-there c = present VlanNotification 2 _ c.requires.whole refl
