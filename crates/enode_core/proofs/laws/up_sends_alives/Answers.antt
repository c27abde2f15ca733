use Rattle.enode_core.proofs.AliveLemmas.{up_begins, up_sends}
use Rattle.enode_core.proofs.laws.up_sends_alives.Goals as goal

pub returns-clause-begins : goal.returns-clause-begins
returns-clause-begins c = up_begins

pub returns-clause-sends : goal.returns-clause-sends
returns-clause-sends c = up_sends
