use Rattle.std.proofs.Common.{◌∙◌}
use Rattle.fab_roster.proofs.Lookups.{login_of_port}
use Rattle.fab_roster.proofs.roster.Roster.by_address.Goals as goal

pub returns : goal.returns
returns c = c.by_address.ensures.login ∙ login_of_port c.self.inside c.self.view_is c.args.address
