-- The laws are lemmas.
use Rattle.fab_policy.proofs.Due.{due_is_one, next_tick_by_is_lesser, next_tick_is_lesser}
use Rattle.fab_policy.proofs.laws.ticks_are_due.Goals as goal

pub returns-clause-one : goal.returns-clause-one
returns-clause-one c = due_is_one

pub returns-clause-next : goal.returns-clause-next
returns-clause-next c = next_tick_is_lesser

pub returns-clause-state : goal.returns-clause-state
returns-clause-state c = next_tick_by_is_lesser
