use Rattle.std.proofs.Common.{◌∙◌}
use Rattle.ct_messages.specs.Server.{Values}
use Rattle.fab_roster.proofs.TablesRead.{value_there}
use Rattle.fab_roster.proofs.roster.Roster.types.Goals as goal

pub returns : goal.returns
returns c = c.types.ensures.types ∙ value_there c.self.invariant c.self.view_is (λ (v : Values). v.types) c.args.address
