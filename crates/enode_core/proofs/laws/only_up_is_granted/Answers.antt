use Rattle.enode_core.proofs.AliveLemmas.{only_up_is_granted}
use Rattle.enode_core.proofs.laws.only_up_is_granted.Goals as goal

pub returns : goal.returns
returns c = only_up_is_granted
