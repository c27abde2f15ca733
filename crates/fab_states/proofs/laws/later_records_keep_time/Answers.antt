-- The law is a lemma.
use Rattle.fab_states.proofs.GrowLemmas.{timed_grows_from}
use Rattle.fab_states.proofs.laws.later_records_keep_time.Goals as goal

pub returns : goal.returns
returns c = timed_grows_from
