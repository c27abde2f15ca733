-- The laws are lemmas.
use Rattle.fab_states.proofs.WrittenLemmas.{records_grow_from, text_grows_from}
use Rattle.fab_states.proofs.laws.later_entries_are_written.Goals as goal

pub returns : goal.returns
returns c = record { text = text_grows_from; records = records_grow_from }
