-- The laws are lemmas.
use Rattle.fab_policy.proofs.Standing.{stands_new, stands_after, stands_older, due_after, stands_drained, legal_after}
use Rattle.fab_policy.proofs.laws.fabric_steps.Goals as goal

pub returns-clause-first : goal.returns-clause-first
returns-clause-first c = stands_new

pub returns-clause-after : goal.returns-clause-after
returns-clause-after c = stands_after

pub returns-clause-older : goal.returns-clause-older
returns-clause-older c = stands_older

pub returns-clause-due : goal.returns-clause-due
returns-clause-due c = due_after

pub returns-clause-drained : goal.returns-clause-drained
returns-clause-drained c = stands_drained

pub returns-clause-legal : goal.returns-clause-legal
returns-clause-legal c = legal_after
