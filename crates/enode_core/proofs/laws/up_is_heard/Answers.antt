use Rattle.enode_core.proofs.AliveLemmas.{up_is_heard}
use Rattle.enode_core.proofs.laws.up_is_heard.Goals as goal

pub returns : goal.returns
returns c = up_is_heard
