use Rattle.fab_state.proofs.UnderLemmas.{earlier_is_same, runs_go_on, seams_go_on}
use Rattle.fab_state.proofs.laws.sessions_go_on_under_later_activations.Goals as goal

pub returns-clause-earlier : goal.returns-clause-earlier
returns-clause-earlier c = earlier_is_same

pub returns-clause-seams : goal.returns-clause-seams
returns-clause-seams c = seams_go_on

pub returns-clause-runs : goal.returns-clause-runs
returns-clause-runs c = runs_go_on c.seams_can_restore.ensures.runs
