use Rattle.std.proofs.Common.{◌≡◌, ◌++◌, ℕ, List, drop, length}
use Rattle.std.specs.Prelude.{flat_map}
use Rattle.fab_pieces.specs.Seam.{row_text}
use Rattle.fab_state.specs.Words.{AreLines}
use Rattle.fab_state.proofs.lines.behind_lines.Given as goal

abbrev pub invariant-loop-index : goal.invariant-loop-index
invariant-loop-index l =
    (rows : List (List (List ℕ))) (more : List ℕ) → AreLines rows → length rows ≡ l.count → l.fn.text ≡ flat_map row_text rows ++ more → l.rest ≡ flat_map row_text (drop l.index rows) ++ more
