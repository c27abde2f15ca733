use Rattle.std.proofs.Common.{◌<◌, length, ℕ}
use Rattle.tool_process.specs.Same.{IsAlone}
use Rattle.tool_process.proofs.same.two_of_one.Given as goal

abbrev pub invariant-loop-place : goal.invariant-loop-place
invariant-loop-place l = (i : ℕ) → i < l.place → IsAlone l.fn.spots i (length l.fn.spots)
