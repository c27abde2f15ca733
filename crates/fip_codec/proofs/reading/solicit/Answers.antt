use Rattle.std.proofs.Common.{refl}
use Rattle.fip_codec.specs.Fip.{Solicitation}
use Rattle.fip_codec.proofs.Present.{present}
use Rattle.fip_codec.proofs.reading.solicit.Goals as goal

pub mac_of-requires-clause-there : goal.mac_of-requires-clause-there
mac_of-requires-clause-there c = present Solicitation 2 _ c.requires.whole refl

pub name_of-requires-clause-there : goal.name_of-requires-clause-there
name_of-requires-clause-there c = present Solicitation 4 _ c.requires.whole refl

pub content_of-requires-clause-there : goal.content_of-requires-clause-there
content_of-requires-clause-there c = present Solicitation 6 _ c.requires.whole refl
