use Rattle.std.proofs.Common.{ℕ, ◌+◌, ◌≤◌}
use Rattle.sorted_lists.specs.Reach.{HoldsUpTo}
use Rattle.sorted_lists.proofs.quarters.reach.Given as goal

abbrev pub invariant-loop-left : goal.invariant-loop-left
invariant-loop-left g l = record {
  within : l.start + l.left ≤ l.count;
  around : (n : ℕ) → HoldsUpTo (goal.F-post g l.holds) l.count n → l.start ≤ n × n ≤ l.start + l.left;
}

abbrev pub decreases-loop-left : goal.decreases-loop-left
decreases-loop-left g l = l.left
