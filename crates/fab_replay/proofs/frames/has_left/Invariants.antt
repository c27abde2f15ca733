use Rattle.std.proofs.Common.{ℕ, ◌<◌, ◌-◌, length}
use Rattle.fab_replay.specs.Steps.{IsDone}
use Rattle.fab_replay.proofs.frames.has_left.Given as goal

abbrev pub invariant-ports : goal.invariant-ports
invariant-ports l = (q : ℕ) → q < l.port → IsDone l.shelves l.done q

abbrev pub decreases-ports : goal.decreases-ports
decreases-ports l = length l.shelves - l.port
