use Rattle.fab_pieces.specs.Seam.{login_row}
use Rattle.fab_state.proofs.LineLemmas.{login_is_line}
use Rattle.std.proofs.Common.{◌≡◌, ◌∙◌, ℕ, [], Option, Some, None, refl, slice_get, unwrap_or}
use Rattle.fab_pieces.specs.Seam.{may_word}
use Rattle.fab_state.specs.Words.{first_of}
use Rattle.fab_state.proofs.lines.size_in.Goals as goal

pub returns : goal.returns
returns c p h e = c.size_of.ensures p.server h.size (c.word_at.ensures (login_row p) (login_is_line p h) e ∙ may_first p.server)
  where
    -- the word behind the others, if there is one
    may_first : (o : Option ℕ) → unwrap_or (slice_get (may_word o) 0) [] ≡ first_of (may_word o)
    may_first None = refl
    may_first (Some n) = refl
