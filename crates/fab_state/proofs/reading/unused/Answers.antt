use Rattle.std.proofs.Common.{sym}
use Rattle.fab_pieces.proofs.SeamLemmas.{same_past}
use Rattle.fab_state.proofs.reading.unused.Goals as goal

pub returns : goal.returns
returns c q h at none = same_past (sym at) (sym none) (sym (h.plain none))
