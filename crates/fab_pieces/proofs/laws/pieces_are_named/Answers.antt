-- The laws are lemmas.
use Rattle.fab_pieces.proofs.NamedLemmas.{text_names_piece, between_is_one}
use Rattle.fab_pieces.proofs.laws.pieces_are_named.Goals as goal

pub returns : goal.returns
returns c = record { text = text_names_piece; between = between_is_one }
