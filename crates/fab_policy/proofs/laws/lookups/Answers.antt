-- The laws are lemmas.
use Rattle.fab_policy.proofs.Found.{lives_are_found, others_are_none}
use Rattle.fab_policy.proofs.laws.lookups.Goals as goal

pub returns-clause-lives : goal.returns-clause-lives
returns-clause-lives c = lives_are_found

pub returns-clause-others : goal.returns-clause-others
returns-clause-others c = others_are_none
