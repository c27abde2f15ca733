-- The laws are lemmas.
use Rattle.fab_pieces.proofs.CheckedLemmas.{checked_make_session}
use Rattle.fab_pieces.proofs.SessionLemmas.{pieces_make_session}
use Rattle.fab_pieces.proofs.laws.sessions_are_runs.Goals as goal

pub returns : goal.returns
returns c = record { pieces = pieces_make_session c.records_come_later.ensures.timed; checked = checked_make_session c.records_come_later.ensures.timed }
