use Rattle.std.proofs.Common.{◌∙◌, ap}
use Rattle.zone_rules.specs.Joined.{next_change}
use Rattle.zone_rules.specs.Rules.{ZoneRules}
use Rattle.zone_rules.proofs.ChangeLemmas.{first_is_least}
use Rattle.zone_rules.proofs.zones.Zones.next_change.Goals as goal

pub returns-clause-least : goal.returns-clause-least
returns-clause-least c = first_is_least c.args.self.now.activations c.args.after _ (c.first_change.ensures ∙ ap (λ (z : ZoneRules). next_change z.activations c.args.after) c.self.view_is)
