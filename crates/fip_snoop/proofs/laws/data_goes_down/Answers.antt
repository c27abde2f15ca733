-- The law is a lemma.
use Rattle.fip_snoop.proofs.WayLemmas.{data_down}
use Rattle.fip_snoop.proofs.laws.data_goes_down.Goals as goal

pub returns : goal.returns
returns c = data_down
