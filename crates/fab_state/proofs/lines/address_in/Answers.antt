use Rattle.fab_pieces.specs.Seam.{login_row}
use Rattle.fab_state.proofs.LineLemmas.{login_is_line}
use Rattle.fab_state.proofs.lines.address_in.Goals as goal

pub returns : goal.returns
returns c p h e = c.address_of.ensures p.address h.ranged.address (c.word_at.ensures (login_row p) (login_is_line p h) e)
