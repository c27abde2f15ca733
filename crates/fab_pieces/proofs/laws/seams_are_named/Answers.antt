-- The law is a lemma.
use Rattle.fab_pieces.proofs.SeamLemmas.{text_names_seam}
use Rattle.fab_pieces.proofs.laws.seams_are_named.Goals as goal

pub returns : goal.returns
returns c = text_names_seam
