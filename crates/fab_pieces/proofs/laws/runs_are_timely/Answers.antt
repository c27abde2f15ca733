-- The laws are lemmas.
use Rattle.fab_pieces.proofs.TimelyLemmas as timely
use Rattle.fab_pieces.proofs.TimelyLemmas.{entries_keep_timely, runs_keep_timely}
use Rattle.fab_pieces.proofs.laws.runs_are_timely.Goals as goal

pub returns : goal.returns
returns c = record { entries = entries_keep_timely; pieces = runs_keep_timely; runs = timely.runs_are_timely }
