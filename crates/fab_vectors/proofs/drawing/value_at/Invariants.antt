use Rattle.std.proofs.Common.{◌≡◌}
use Rattle.fab_vectors.specs.Load.{value}
use Rattle.fab_vectors.proofs.drawing.value_at.Given as goal

abbrev pub invariant-loop : goal.invariant-loop
invariant-loop l = l.x ≡ value l.number l.counter
