use Rattle.std.proofs.Common.{◌∙◌, ap, sym, Some}
use Rattle.fab_pieces.specs.Seam.{past_row}
use Rattle.fab_pieces.proofs.SeamLemmas.{same_past}
use Rattle.fab_state.proofs.SeamReadLemmas.{may_first, named_long, past_is_line}
use Rattle.fab_state.proofs.reading.past_in.Goals as goal

pub returns : goal.returns
returns c q name h at named e =
    let row = past_row q name in
    let line = past_is_line q name h in
    same_past (sym at) (ap Some (c.name_of.ensures name (named_long q name h named) (c.word_at.ensures row line e)) ∙ sym named)
    (c.may_moment_of.ensures q.ended h.ended (c.word_at-2.ensures row line e ∙ may_first q.ended))
