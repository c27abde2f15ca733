-- The law is a lemma.
use Rattle.fab_windows.proofs.StepLemmas as steps
use Rattle.fab_windows.proofs.steps.firsts_are_taken.Goals as goal

pub returns : goal.returns
returns c = steps.firsts_are_taken
