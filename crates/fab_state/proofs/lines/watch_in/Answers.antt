use Rattle.fab_pieces.specs.Seam.{login_row}
use Rattle.fab_state.proofs.LineLemmas.{login_is_line}
use Rattle.fab_state.proofs.lines.watch_in.Goals as goal

pub returns : goal.returns
returns c p h e = c.small_of.ensures p.watch h.watch (c.word_at.ensures (login_row p) (login_is_line p h) e)
