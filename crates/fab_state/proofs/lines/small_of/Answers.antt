use Rattle.std.proofs.Common.{arith}
use Rattle.fab_state.proofs.LineLemmas.{small_is}
use Rattle.fab_state.proofs.lines.small_of.Goals as goal

pub returns : goal.returns
returns c n small e = small_is c.number_of.result n small (c.number_of.ensures n (omega arith) e)
