use Rattle.std.proofs.Common.{IsTrue, subst}
use Rattle.fab_config.specs.Settings.{Settings, is_in_range}
use Rattle.forward_core.proofs.RangeLemmas.{ranges}
use Rattle.forward_core.proofs.due.in_range.Goals as goal

pub returns-clause-range : goal.returns-clause-range
returns-clause-range c = subst (λ (s : Settings). IsTrue (is_in_range s)) c.config.view_is c.config.invariant

pub returns-clause-ranges : goal.returns-clause-ranges
returns-clause-ranges c = ranges c.args.config.now (subst (λ (s : Settings). IsTrue (is_in_range s)) c.config.view_is c.config.invariant)
