use Rattle.fab_state.proofs.LineLemmas.{size_is, size_long}
use Rattle.fab_state.proofs.lines.size_of.Goals as goal

pub returns-in-Some : goal.returns-in-Some
returns-in-Some c o h e = size_is o c.in-Some.number h (c.in-Some.ensures o (size_long o h) e)

pub returns-in-None : goal.returns-in-None
returns-in-None c o h e = c.in-None.ensures o (size_long o h) e
