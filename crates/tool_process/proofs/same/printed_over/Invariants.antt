use Rattle.tool_process.specs.Same.{NonePrinted}
use Rattle.tool_process.proofs.same.printed_over.Given as goal

abbrev pub invariant-loop-place : goal.invariant-loop-place
invariant-loop-place l = NonePrinted l.fn.spots l.fn.printed l.place
