-- The laws are lemmas.
use Rattle.fab_pieces.proofs.SoundLemmas.{first_is_sound, entries_keep_sound, pieces_keep_sound, journals_are_sound}
use Rattle.fab_pieces.proofs.laws.states_are_sound.Goals as goal

pub returns : goal.returns
returns c = record { first = first_is_sound; entries = entries_keep_sound; pieces = pieces_keep_sound; journals = journals_are_sound }
