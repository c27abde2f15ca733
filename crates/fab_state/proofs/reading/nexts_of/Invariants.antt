use Rattle.std.proofs.Common.{◌≡◌, ◌++◌, ℕ, List, length, take}
use Rattle.std.specs.Prelude.{flat_map}
use Rattle.fab_pieces.specs.Seam.{IsRangedSeam, Seam, row_text, rows_of}
use Rattle.fab_state.proofs.reading.nexts_of.Given as goal

abbrev pub invariant-loop-place : goal.invariant-loop-place
invariant-loop-place l =
    (s : Seam) (more : List ℕ) → IsRangedSeam s → l.fn.text ≡ flat_map row_text (rows_of s) ++ more → length s.nexts ≡ l.count → l.nexts.items ≡ take l.place s.nexts
