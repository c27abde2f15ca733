use Rattle.fab_pieces.specs.Seam.{login_row}
use Rattle.fab_state.proofs.LineLemmas.{login_is_line}
use Rattle.fab_pieces.proofs.SeamLemmas.{same_enodes}
use Rattle.fab_state.proofs.lines.enode_in.Goals as goal

pub returns : goal.returns
returns c p h e =
    let line = login_is_line p h in
    same_enodes (c.port_of.ensures p.enode.port h.least h.most (c.word_at.ensures (login_row p) line e)) (c.mac_of.ensures p.enode.mac h.mac h.ranged.mac (c.word_at-2.ensures (login_row p) line e))
