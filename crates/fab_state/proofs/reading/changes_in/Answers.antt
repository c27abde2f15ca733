use Rattle.std.proofs.Common.{[], ◌∷◌, decimal, refl}
use Rattle.std.specs.Prelude.{codes}
use Rattle.fab_pieces.specs.Seam.{rows_of}
use Rattle.fab_state.proofs.SeamReadLemmas.{all_lines, line_in}
use Rattle.fab_state.proofs.reading.changes_in.Goals as goal

pub returns : goal.returns
returns c s more h e =
    let row = codes "changes" ∷ decimal s.state.rscns ∷ [] in
    let lines = all_lines s h in
    c.number_of.ensures s.state.rscns h.rscns (c.word_at.ensures row (line_in (rows_of s) 3 row lines refl) (c.line_at.ensures (rows_of s) row more lines refl e))
