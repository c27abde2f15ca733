-- The laws are lemmas.
use Rattle.fab_policy.proofs.Steps.{steps_login, steps}
use Rattle.fab_policy.proofs.Found.{found_by_address}
use Rattle.fab_policy.proofs.laws.journal_steps.Goals as goal

pub returns-clause-login : goal.returns-clause-login
returns-clause-login c = steps_login

pub returns-clause-tables : goal.returns-clause-tables
returns-clause-tables c = steps

pub returns-clause-found : goal.returns-clause-found
returns-clause-found c = found_by_address
