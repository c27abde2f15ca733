use Rattle.std.proofs.Common.{◌≡◌, ◌∙◌}
use Rattle.std.proofs.lemmas.Result.{IfOk-weaker}
use Rattle.fab_config.specs.Settings.{Settings}
use Rattle.state_change.specs.Watchers.{changed}
use Rattle.fab_policy.specs.State.{addresses}
use Rattle.fab_roster.specs.Reaching.{zones_of, told_between}
use Rattle.fab_roster.specs.Roll.{addresses_of}
use Rattle.fab_roster.proofs.Reached.{left, told_between_law}
use Rattle.fab_roster.proofs.roster.Roster.recipients_between.Goals as goal

pub returns : goal.returns
returns c =
    let i = c.self.inside in
    let but = addresses_of c.args.but.now in
    IfOk-weaker c.reached.result
    (λ ids. ids ≡ left but (changed c.args.zones.now c.args.before c.args.at c.args.name i.watchers.watchers))
    (λ ids. (s : Settings) → c.args.zones.now ≡ zones_of s → ids ≡ addresses (told_between s c.args.self.now.tables c.args.before c.args.at c.args.name but))
    (λ ids is s same. is ∙ told_between_law c.self.invariant c.self.view_is
    s c.args.zones.now same c.args.before c.args.at c.args.name but)
    c.reached.ensures
