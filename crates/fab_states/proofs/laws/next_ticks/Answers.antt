-- The law is a lemma.
use Rattle.fab_states.proofs.WentLemmas.{next_ticks_stand}
use Rattle.fab_states.proofs.laws.next_ticks.Goals as goal

pub returns : goal.returns
returns c = next_ticks_stand
