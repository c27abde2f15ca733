use Rattle.std.proofs.Common.{◌∷◌}
use Rattle.fab_state.proofs.reading.first_word.Goals as goal

pub returns : goal.returns
returns c w ws more h e = c.word_at.ensures (w ∷ ws) h (c.cut_line.ensures.line (w ∷ ws) more h e).0
