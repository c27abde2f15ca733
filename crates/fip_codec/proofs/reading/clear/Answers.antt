use Rattle.std.proofs.Common.{refl}
use Rattle.fip_codec.specs.Fip.{ClearLinks}
use Rattle.fip_codec.proofs.Present.{present}
use Rattle.fip_codec.proofs.reading.clear.Goals as goal

pub mac_of-requires-clause-there : goal.mac_of-requires-clause-there
mac_of-requires-clause-there c = present ClearLinks 2 _ c.requires.whole refl

pub name_of-requires-clause-there : goal.name_of-requires-clause-there
name_of-requires-clause-there c = present ClearLinks 4 _ c.requires.whole refl
