use Rattle.wire_store.proofs.PortLemmas.{fed_none, fed_on}
use Rattle.wire_store.proofs.laws.fetches_are_of_one_stream.Goals as goal

pub returns : goal.returns
returns c = (fed_none, fed_on)
