use Rattle.std.proofs.Common.{◌∙◌}
use Rattle.fab_roster.proofs.Lookups.{login_named}
use Rattle.fab_roster.proofs.roster.Roster.by_name.Goals as goal

pub returns : goal.returns
returns c = c.by_name.ensures.login ∙ login_named c.self.inside c.self.view_is c.args.name
