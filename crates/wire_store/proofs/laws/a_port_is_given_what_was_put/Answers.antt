use Rattle.wire_store.proofs.PortLemmas.{sends_on}
use Rattle.wire_store.proofs.laws.a_port_is_given_what_was_put.Goals as goal

pub returns : goal.returns
returns c = sends_on
