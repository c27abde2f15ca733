-- The laws are lemmas.
use Rattle.fab_states.proofs.OnLemmas as on
use Rattle.fab_states.proofs.laws.states_go_on.Goals as goal

pub returns : goal.returns
returns c = record { states = on.states_go_on; legal = on.legal_goes_on; sent = on.sent_goes_on }
