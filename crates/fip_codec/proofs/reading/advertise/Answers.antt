use Rattle.std.proofs.Common.{refl}
use Rattle.fip_codec.specs.Fip.{Advertisement}
use Rattle.fip_codec.proofs.Present.{present}
use Rattle.fip_codec.proofs.reading.advertise.Goals as goal

pub content_of-fabric-requires-clause-there : goal.content_of-fabric-requires-clause-there
content_of-fabric-requires-clause-there c = present Advertisement 5 _ c.requires.whole refl

pub content_of-advertising-requires-clause-there : goal.content_of-advertising-requires-clause-there
content_of-advertising-requires-clause-there c = present Advertisement 12 _ c.requires.whole refl

pub content_of-requires-clause-there : goal.content_of-requires-clause-there
content_of-requires-clause-there c = present Advertisement 1 _ c.requires.whole refl

pub mac_of-requires-clause-there : goal.mac_of-requires-clause-there
mac_of-requires-clause-there c = present Advertisement 2 _ c.requires.whole refl

pub name_of-requires-clause-there : goal.name_of-requires-clause-there
name_of-requires-clause-there c = present Advertisement 4 _ c.requires.whole refl
