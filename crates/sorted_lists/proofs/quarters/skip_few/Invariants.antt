use Rattle.std.proofs.Common.{◌≡◌, ℕ, ◌+◌, ◌≤◌}
use Rattle.sorted_lists.specs.Reach.{HoldsUpTo}
use Rattle.sorted_lists.proofs.quarters.skip_few.Given as goal

abbrev pub invariant-loop-place : goal.invariant-loop-place
invariant-loop-place g l = record {
  on : l.start ≤ l.reached × l.reached ≤ l.place;
  value : (count n : ℕ) → HoldsUpTo (goal.F-post g l.holds) count n → l.start + l.left ≤ count → l.start ≤ n → n ≤ l.start + l.left → (n ≤ l.place → l.reached ≡ n) × (l.place ≤ n → l.reached ≡ l.place);
}
