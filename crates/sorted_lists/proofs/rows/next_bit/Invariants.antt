use Rattle.std.proofs.Common.{◌≡◌, ◌/◌, ◌<◌, ◌≤◌, ℕ, false}
use Rattle.sorted_lists.specs.Row.{has}
use Rattle.sorted_lists.proofs.rows.next_bit.Given as goal

abbrev pub invariant-loop-next : goal.invariant-loop-next
invariant-loop-next l = (q : ℕ) → l.from ≤ q → q / 64 < l.next → has l.row q ≡ false
