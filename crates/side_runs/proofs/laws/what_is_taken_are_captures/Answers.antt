use Rattle.side_runs.proofs.TakenLemmas.{taken_are_captures}
use Rattle.side_runs.proofs.laws.what_is_taken_are_captures.Goals as goal

pub returns : goal.returns
returns c = taken_are_captures c.the_end_makes_a_capture.ensures
