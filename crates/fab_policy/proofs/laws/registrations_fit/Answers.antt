use Rattle.fab_policy.proofs.RegistryFits.{registered_after, values_fresh, features_are_all}
use Rattle.fab_policy.proofs.laws.registrations_fit.Goals as goal

pub returns-clause-after : goal.returns-clause-after
returns-clause-after c = registered_after

pub returns-clause-fresh : goal.returns-clause-fresh
returns-clause-fresh c = values_fresh

pub returns-clause-features : goal.returns-clause-features
returns-clause-features c = features_are_all
