use Rattle.std.proofs.Common.{◌≡◌, ◌≤◌, ◌-◌, length, take}
use Rattle.fab_replay.proofs.ticks.are_same.Given as goal

abbrev pub invariant-places : goal.invariant-places
invariant-places l = record {
  same : take l.place l.one ≡ take l.place l.other;
  within : l.place ≤ length l.one;
  size : length l.one ≡ length l.other;
}

abbrev pub decreases-places : goal.decreases-places
decreases-places l = length l.one - l.place
