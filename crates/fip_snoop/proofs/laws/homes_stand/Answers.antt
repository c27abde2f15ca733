-- The law is a lemma.
use Rattle.fip_snoop.proofs.WayLemmas.{home_is}
use Rattle.fip_snoop.proofs.laws.homes_stand.Goals as goal

pub returns : goal.returns
returns c = home_is
