use Rattle.els_messages.proofs.ElsLemmas.{length-written, stands_written}
use Rattle.els_messages.proofs.laws.els_is_written.Goals as goal

pub returns-clause-size : goal.returns-clause-size
returns-clause-size c = length-written

pub returns-clause-layout : goal.returns-clause-layout
returns-clause-layout c = stands_written
