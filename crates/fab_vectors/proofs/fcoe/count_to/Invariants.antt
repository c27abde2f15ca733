use Rattle.std.proofs.Common.{◌≡◌}
use Rattle.std.specs.Prelude.{◌%◌}
use Rattle.fab_vectors.specs.Names.{numbered}
use Rattle.fab_vectors.proofs.fcoe.count_to.Given as goal

abbrev pub invariant-loop-place : goal.invariant-loop-place
invariant-loop-place l = l.bytes.items ≡ numbered (λ place. place % 256) 0 l.place
