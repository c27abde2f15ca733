use Rattle.std.proofs.Common.{◌∙◌, ◌∷◌, refl}
use Rattle.std.specs.Prelude.{codes}
use Rattle.fab_pieces.specs.Seam.{may_word, rows_of}
use Rattle.fab_state.proofs.SeamReadLemmas.{all_lines, line_in, may_first}
use Rattle.fab_state.proofs.reading.advertised_in.Goals as goal

pub returns : goal.returns
returns c s more h e =
    let row = codes "advertised" ∷ may_word s.state.advertised in
    let lines = all_lines s h in
    c.may_moment_of.ensures s.state.advertised h.advertised
    (c.word_at.ensures row (line_in (rows_of s) 2 row lines refl) (c.line_at.ensures (rows_of s) row more lines refl e) ∙ may_first s.state.advertised)
