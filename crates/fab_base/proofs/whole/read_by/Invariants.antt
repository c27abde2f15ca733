use Rattle.std.proofs.Common.{◌≡◌, length}
use Rattle.fab_base.proofs.WholeLemmas.{WholeSoFar}
use Rattle.fab_base.proofs.whole.read_by.Given as goal

abbrev pub invariant-loop-got : goal.invariant-loop-got
invariant-loop-got g l =
    let seen = g.D.Depot.seen in
    record { so : WholeSoFar l.slot l.limit (seen l.fn.depot) (seen l.depot) l.whole.items l.room; size : length l.piece ≡ length l.initial.piece }

abbrev pub decreases-loop-got : goal.decreases-loop-got
decreases-loop-got g l = l.room
