use Rattle.frame_cases.proofs.text.clocked.Goals as goal

-- a frame's entry may stand at any clock
pub in_both-requires-in-Frame-clause-clock : goal.in_both-requires-in-Frame-clause-clock
in_both-requires-in-Frame-clause-clock c = c.framed.ensures.clock c.args.clock
