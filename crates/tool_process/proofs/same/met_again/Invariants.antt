use Rattle.std.proofs.Common.{◌<◌}
use Rattle.tool_process.specs.Same.{IsAlone}
use Rattle.tool_process.proofs.same.met_again.Given as goal

abbrev pub invariant-loop-later : goal.invariant-loop-later
invariant-loop-later l = (l.fn.place < l.later) × IsAlone l.fn.spots l.fn.place l.later
