-- The laws are lemmas.
use Rattle.fab_pieces.proofs.ServesLemmas.{entries_keep_served, pieces_keep_served, journals_are_served}
use Rattle.fab_pieces.proofs.laws.logins_are_served.Goals as goal

pub returns : goal.returns
returns c = record { entries = entries_keep_served; pieces = pieces_keep_served; journals = journals_are_served }
