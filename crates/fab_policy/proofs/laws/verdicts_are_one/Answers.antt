-- The laws are lemmas.
use Rattle.fab_policy.proofs.Right.{right_is_one}
use Rattle.fab_policy.proofs.laws.verdicts_are_one.Goals as goal

pub returns : goal.returns
returns c = right_is_one
