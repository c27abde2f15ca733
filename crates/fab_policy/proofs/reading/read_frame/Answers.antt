use Rattle.fab_policy.proofs.ReadingLemmas.{no_index, no_verdict}
use Rattle.fab_policy.proofs.reading.read_frame.Goals as goal

pub returns-in_default-read_number : goal.returns-in_default-read_number
returns-in_default-read_number c = no_index c.args.word.now c.args.rest.now _ _ c.args.clock c.in-Some-next_word.ensures.some c.in_default-read_number.ensures

pub returns-in-None : goal.returns-in-None
returns-in-None c = no_verdict c.args.word.now c.args.rest.now _ _ c.args.clock c.in-Some-next_word.ensures.some c.in-None.ensures
