use Rattle.std.proofs.Common.{◌∙◌, ◌++◌, [], ap, sym, refl, inl, length, map}
use Rattle.std.specs.Prelude.{flat_map}
use Rattle.fab_pieces.specs.Seam.{head_rows, login_row, past_rows, port_rows, row_text}
use Rattle.fab_pieces.proofs.SeamLemmas.{same_seams}
use Rattle.fab_state.proofs.ExactLemmas.{both_lines, front_length, front_lines, no_address, seam_all, seam_front}
use Rattle.fab_state.proofs.exact.seam_of.Goals as goal

pub returns : goal.returns
returns c s h e =
    let r = h.ranged in
    let ports = s.state.tables.ports in
    let logins = flat_map row_text (map login_row ports) ++ [] in
    let all = seam_all s c.args.text.now e in
    let front = both_lines (head_rows s ++ port_rows 1 s.nexts) (past_rows s.state.tables.past ++ map login_row ports) (front_lines s r) in
    let behind = c.behind_lines-behind_ports.ensures (head_rows s ++ port_rows 1 s.nexts) (flat_map row_text (past_rows s.state.tables.past) ++ logins) front.0 (front_length s c.args.ports h.nexts) (seam_front s c.args.text.now all) in
    let past = c.in_ok-past.ensures s.state.tables.past logins h.places r.past (no_address ports h.ports) behind in
    let named = c.named_count.ensures.value ∙ ap (λ qs. length (past_rows qs)) past in
    let later = c.behind_lines.ensures (past_rows s.state.tables.past) logins (both_lines (past_rows s.state.tables.past) (map login_row ports) front.1).0 (sym named) behind in
    let found = c.in_ok-logins.ensures ports [] h.ports (inl refl) later in
    same_seams (c.clock_in.ensures s [] r all) found past (c.advertised_in.ensures s [] r all) (c.changes_in.ensures s [] r all) (c.in_ok-nexts.ensures s [] r all h.nexts) (c.greatest_in.ensures s [] r all)
