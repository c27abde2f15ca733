use Rattle.std.proofs.Common.{◌≡◌, ◌+◌, drop}
use Rattle.fab_sending.specs.Clearing.{place_of}
use Rattle.fab_sending.proofs.clears.place_of.Given as goal

abbrev pub invariant-loop-place : goal.invariant-loop-place
invariant-loop-place l = place_of l.enode (drop l.place l.enodes) + l.place ≡ place_of l.enode l.enodes
