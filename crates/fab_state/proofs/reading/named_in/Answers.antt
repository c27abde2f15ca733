use Rattle.std.proofs.Common.{◌∷◌}
use Rattle.std.specs.Prelude.{codes}
use Rattle.fab_policy.specs.Text.{address_word}
use Rattle.fab_state.proofs.reading.named_in.Goals as goal

pub returns : goal.returns
returns c a ws more small h e =
    let row = codes "address" ∷ address_word a ∷ ws in
    c.address_of.ensures a small (c.word_at.ensures row h (c.cut_line.ensures.line row more h e).0)
