use Rattle.std.proofs.Common.{◌-◌, ◌≤◌, length}
use Rattle.fab_base.proofs.Depots.{Put}
use Rattle.fab_base.proofs.whole.put_all.Given as goal

abbrev pub invariant-loop-done : goal.invariant-loop-done
invariant-loop-done g l =
    let seen = g.D.Depot.seen in
    record { put : Put l.slot l.done (seen l.initial.depot) (seen l.depot) l.from; bound : l.done ≤ length l.from }

abbrev pub decreases-loop-done : goal.decreases-loop-done
decreases-loop-done g l = length l.from - l.done
