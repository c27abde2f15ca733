use Rattle.fab_state.proofs.RestoreLemmas.{fit_can_restore}
use Rattle.fab_state.proofs.laws.fit_seams_can_be_restored.Goals as goal

pub returns : goal.returns
returns c = fit_can_restore
