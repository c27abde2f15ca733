use Rattle.std.proofs.Common.{◌≡◌, ◌++◌, drop}
use Rattle.std.specs.Prelude.{flat_map}
use Rattle.fab_pieces.specs.Seam.{past_rows, row_text}
use Rattle.fab_state.proofs.writing.write_pasts.Given as goal

abbrev pub invariant-loop-past : goal.invariant-loop-past
invariant-loop-past l = l.out.items ++ flat_map row_text (past_rows (drop l.past-index l.fn.past)) ≡ l.fn.out.items ++ flat_map row_text (past_rows l.fn.past)
