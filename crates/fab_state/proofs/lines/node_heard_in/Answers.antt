use Rattle.fab_pieces.specs.Seam.{login_row}
use Rattle.fab_state.proofs.LineLemmas.{login_is_line}
use Rattle.fab_state.proofs.lines.node_heard_in.Goals as goal

pub returns : goal.returns
returns c p h e = c.number_of.ensures p.node_heard h.ranged.node_heard (c.word_at.ensures (login_row p) (login_is_line p h) e)
