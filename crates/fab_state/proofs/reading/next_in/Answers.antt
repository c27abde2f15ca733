use Rattle.std.proofs.Common.{[], ◌∷◌, ◌++◌, ◌+◌, ◌^◌, ◌∙◌, decimal, map}
use Rattle.std.specs.Prelude.{codes}
use Rattle.fab_pieces.specs.Seam.{login_row, past_rows, rows_of}
use Rattle.fab_state.proofs.SeamReadLemmas.{all_lines, behind_head, below_at, line_in, port_row_at}
use Rattle.fab_state.proofs.reading.next_in.Goals as goal

pub returns : goal.returns
returns c s more n h e at =
    let place = c.args.place in
    let there = port_row_at 1 s.nexts place n (past_rows s.state.tables.past ++ map login_row s.state.tables.ports) at in
    let row = codes "port" ∷ there.0 ∷ decimal n ∷ [] in
    let found = behind_head s place ∙ there.1 in
    let lines = all_lines s h in
    c.number_of.ensures n (below_at (2 ^ 64) s.nexts place n h.nexts at) (c.word_at.ensures row (line_in (rows_of s) (place + 5) row lines found) (c.line_at.ensures (rows_of s) row more lines found e))
