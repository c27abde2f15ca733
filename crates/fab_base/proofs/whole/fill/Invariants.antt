use Rattle.std.proofs.Common.{◌-◌, ◌≤◌, length}
use Rattle.fab_base.proofs.Depots.{Filled}
use Rattle.fab_base.proofs.whole.fill.Given as goal

abbrev pub invariant-loop-got : goal.invariant-loop-got
invariant-loop-got g l =
    let seen = g.D.Depot.seen in
    record { filled : Filled l.slot l.got (seen l.initial.depot) (seen l.depot) l.into; bound : l.got ≤ length l.into }

abbrev pub decreases-loop-got : goal.decreases-loop-got
decreases-loop-got g l = length l.initial.into - l.got
