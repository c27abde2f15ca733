-- The laws are lemmas.
use Rattle.fab_pieces.proofs.RunLemmas as runs
use Rattle.fab_pieces.proofs.RunLemmas.{runs_are_from, runs_are_later, runs_leave_pieces}
use Rattle.fab_pieces.proofs.laws.runs_join.Goals as goal

pub returns : goal.returns
returns c = record { first = runs_are_from; later = runs_are_later; join = runs.runs_join c.records_come_later.ensures.timed; leave = runs_leave_pieces }
