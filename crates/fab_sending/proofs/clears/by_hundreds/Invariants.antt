use Rattle.std.proofs.Common.{◌≡◌, ◌≤◌, ◌++◌, ◌-◌, drop, length}
use Rattle.fab_sending.specs.Clearing.{in_hundreds}
use Rattle.fab_sending.specs.Messages.{at_moment}
use Rattle.fab_sending.proofs.clears.by_hundreds.Given as goal

abbrev pub invariant-loop-done : goal.invariant-loop-done
invariant-loop-done l =
    (l.done ≤ length l.ports)
    × (l.outs ++ at_moment l.moment (in_hundreds l.enode (drop l.done l.ports)) ≡ at_moment l.moment (in_hundreds l.enode l.ports))

abbrev pub decreases-loop-done : goal.decreases-loop-done
decreases-loop-done l = length l.ports - l.done
