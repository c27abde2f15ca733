use Rattle.std.proofs.Common.{◌∙◌, ◌++◌, suc, take, drop}
use Rattle.std.specs.Prelude.{flat_map}
use Rattle.fab_pieces.specs.Seam.{row_text}
use Rattle.fab_state.proofs.SeamReadLemmas.{at_place, length-take_at, line_in, take_lines}
use Rattle.fab_state.proofs.reading.line_at.Goals as goal

pub returns : goal.returns
returns c rows ws more lines at e =
    let k = c.args.place in
    let m = flat_map row_text (drop (suc k) rows) ++ more in
    (c.cut_line.ensures.line ws m (line_in rows k ws lines at)
    (c.behind_lines.ensures (take k rows) (row_text ws ++ m) (take_lines rows k lines) (length-take_at rows k ws at) (e ∙ at_place rows k ws more at))).0
