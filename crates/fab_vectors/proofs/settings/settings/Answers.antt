use Rattle.fab_vectors.proofs.SettingsLemmas.{kept}
use Rattle.fab_vectors.proofs.settings.settings.Goals as goal

pub invariant_of-result : goal.invariant_of-result
invariant_of-result c = kept c.in_ok-zones.zones c.empty.result c.empty-2.result c.in_ok-zones.ensures c.empty.ensures c.empty-2.ensures
