use Rattle.std.proofs.Common.{◌≡◌, ℕ, List, drop}
use Rattle.fab_pieces.specs.Seam.{row_text}
use Rattle.fab_state.specs.Words.{IsLine}
use Rattle.fab_state.proofs.words.word_at.Given as goal

abbrev pub invariant-loop-index : goal.invariant-loop-index
invariant-loop-index l = (ws : List (List ℕ)) → IsLine ws → l.fn.line ≡ row_text ws → l.rest ≡ row_text (drop l.index ws)
