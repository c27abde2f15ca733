use Rattle.std.proofs.Common.{IsTrue, subst}
use Rattle.fab_config.specs.Settings.{Settings, is_in_range}
use Rattle.fabric_tool.proofs.running.in_range.Goals as goal

pub returns : goal.returns
returns c = subst (λ (s : Settings). IsTrue (is_in_range s)) c.config.view_is c.config.invariant
