use Rattle.std.proofs.Common.{◌∙◌}
use Rattle.ct_messages.specs.Server.{Values}
use Rattle.fab_roster.proofs.TablesRead.{value_there}
use Rattle.fab_roster.proofs.roster.Roster.values.Goals as goal

pub returns : goal.returns
returns c = c.values.ensures.values ∙ value_there c.self.invariant c.self.view_is (λ (v : Values). v) c.args.address
