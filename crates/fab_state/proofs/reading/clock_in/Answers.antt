use Rattle.std.proofs.Common.{◌∙◌, ◌∷◌, refl}
use Rattle.std.specs.Prelude.{codes}
use Rattle.fab_pieces.specs.Seam.{may_word, rows_of}
use Rattle.fab_state.proofs.SeamReadLemmas.{all_lines, line_in, may_first}
use Rattle.fab_state.proofs.reading.clock_in.Goals as goal

pub returns : goal.returns
returns c s more h e =
    let row = codes "clock" ∷ may_word s.state.tables.clock in
    let lines = all_lines s h in
    c.may_moment_of.ensures s.state.tables.clock h.clock
    (c.word_at.ensures row (line_in (rows_of s) 1 row lines refl) (c.line_at.ensures (rows_of s) row more lines refl e) ∙ may_first s.state.tables.clock)
