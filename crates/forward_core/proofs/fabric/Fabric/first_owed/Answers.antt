use Rattle.std.proofs.Common.{ℕ, ◌≡◌, IsTrue, Option, subst}
use Rattle.fab_config.specs.Settings.{do_rise}
use Rattle.zone_rules.specs.Joined.{IsNextChange}
use Rattle.zone_rules.specs.Rules.{ZoneRules}
use Rattle.fab_policy.specs.Standing.{Contents}
use Rattle.fab_policy.specs.Legal.{has_activation, is_tick_owed}
use Rattle.fab_policy.specs.Outputs.{is_owed}
use Rattle.forward_core.specs.Due.{reaches}
use Rattle.forward_core.proofs.DueLemmas.{owed_from, activation_from}
use Rattle.forward_core.proofs.fabric.Fabric.first_owed.Goals as goal

next : (c : goal.In-Some) → IsNextChange c.self.inside.config.activations c.args.clock c.next_change.result
next c = subst (λ (z : ZoneRules). IsTrue (do_rise z.activations) → IsNextChange z.activations c.args.clock c.next_change.result) c.self.invariant.zones c.next_change.ensures.least c.in_range.ensures.ranges.rise

pub returns-clause-owed : goal.returns-clause-owed
returns-clause-owed c k =
    subst (λ (o : Option ℕ). is_tick_owed c.args.self.now.settings c.args.self.now.state.tables c.args.self.now.state.advertised k ≡ reaches o k) c.in-Some.is
    (owed_from c.args.self.now.settings c.args.self.now.state.tables c.args.clock k c.args.self.now.state.advertised c.overdue_from.result c.advertisement_owed-advertised.result
    c.next_change.result c.sooner-first.result c.sooner.result c.requires.clock (c.overdue_from.ensures k)
    (subst (λ (F : Contents). is_owed F.settings F.state.advertised k ≡ reaches c.advertisement_owed-advertised.result k) c.self.view_is (c.advertisement_owed-advertised.ensures.owed k))
    (subst (λ (F : Contents). has_activation F.settings.activations c.args.clock k ≡ reaches c.next_change.result k) c.self.view_is
    (activation_from c.self.inside.config.activations c.args.clock c.next_change.result (next c) k))
    (c.sooner-first.ensures.reaches k) (c.sooner.ensures.reaches k))
