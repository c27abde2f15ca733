-- The law is a lemma.
use Rattle.fip_snoop.proofs.WayLemmas.{enodes_are_apart}
use Rattle.fip_snoop.proofs.laws.enodes_are_apart.Goals as goal

pub returns : goal.returns
returns c = enodes_are_apart
