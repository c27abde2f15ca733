-- The laws are lemmas.
use Rattle.fab_windows.proofs.FrameLemmas.{frames_exist}
use Rattle.fab_windows.proofs.NextTickLemmas.{ticks_exist}
use Rattle.fab_windows.proofs.VerdictLemmas.{verdicts_exist}
use Rattle.fab_windows.proofs.onward.journals_go_on.Goals as goal

pub returns-clause-verdicts : goal.returns-clause-verdicts
returns-clause-verdicts c = verdicts_exist

pub returns-clause-ticks : goal.returns-clause-ticks
returns-clause-ticks c = ticks_exist

pub returns-clause-frames : goal.returns-clause-frames
returns-clause-frames c = frames_exist
