use Rattle.std.proofs.Common.{◌≡◌, ◌≤◌, ◌+◌, drop, length}
use Rattle.fab_pieces.specs.Seam.{past_rows}
use Rattle.fab_state.proofs.pasts.named_count.Given as goal

abbrev pub invariant-loop-past : goal.invariant-loop-past
invariant-loop-past l = (l.count + length (past_rows (drop l.past-index l.fn.pasts)) ≡ length (past_rows l.fn.pasts)) × (l.count ≤ l.past-index)
