use Rattle.std.proofs.Common.{length, ◌-◌, ◌≤◌, take}
use Rattle.fab_replay.specs.Outputs.{GoesOn}
use Rattle.fab_replay.proofs.outputs.Compared.feed.Given as goal

abbrev pub invariant-loop-done : goal.invariant-loop-done
invariant-loop-done g l =
    let seen = g.D.Depot.seen in
    record { on : GoesOn l.slot (take l.done l.wanted) (seen l.initial.depot) (seen l.depot) l.initial.self l.self; bound : l.done ≤ length l.wanted }

abbrev pub decreases-loop-done : goal.decreases-loop-done
decreases-loop-done g l = length l.wanted - l.done
