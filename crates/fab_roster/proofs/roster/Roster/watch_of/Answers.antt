use Rattle.std.proofs.Common.{◌∙◌}
use Rattle.fab_roster.proofs.TablesRead.{watch_there}
use Rattle.fab_roster.proofs.roster.Roster.watch_of.Goals as goal

pub returns : goal.returns
returns c = c.function_of.ensures.function ∙ watch_there c.self.invariant c.self.view_is c.args.address
