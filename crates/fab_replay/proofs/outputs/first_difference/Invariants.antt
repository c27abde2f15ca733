use Rattle.std.proofs.Common.{length, ◌-◌, ◌≡◌, ◌≤◌, take}
use Rattle.fab_replay.proofs.outputs.first_difference.Given as goal

abbrev pub invariant-loop-place : goal.invariant-loop-place
invariant-loop-place l = record { same : take l.place l.found ≡ take l.place l.wanted; bound : l.place ≤ length l.found }

abbrev pub decreases-loop-place : goal.decreases-loop-place
decreases-loop-place l = length l.found - l.place
