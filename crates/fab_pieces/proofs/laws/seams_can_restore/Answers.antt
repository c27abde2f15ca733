-- The laws are lemmas.
use Rattle.fab_pieces.proofs.RestoredLemmas.{first_can_restore, runs_can_restore}
use Rattle.fab_pieces.proofs.laws.seams_can_restore.Goals as goal

pub returns : goal.returns
returns c = record { first = first_can_restore; runs = runs_can_restore }
