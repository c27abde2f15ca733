-- The laws are lemmas.
use Rattle.fab_policy.proofs.Forwarding.{forwards_exactly, legal_forwards}
use Rattle.fab_policy.proofs.laws.forwarding_rule.Goals as goal

pub returns-clause-judged : goal.returns-clause-judged
returns-clause-judged c = forwards_exactly

pub returns-clause-journal : goal.returns-clause-journal
returns-clause-journal c = legal_forwards
