use Rattle.std.proofs.Common.{ℕ, ◌∙◌, sym, ap, None, Some}
use Rattle.zone_rules.specs.Joined.{joined}
use Rattle.sorted_lists.specs.Row.{has}
use Rattle.zone_rules.specs.Rules.{ZoneRules}
use Rattle.zone_rules.proofs.JoinLemmas.{joined_same, joined_is}
use Rattle.zone_rules.proofs.SetLemmas.{has-active}
use Rattle.zone_rules.proofs.zones.Zones.joined.Goals as goal

pub returns-then-x-y : goal.returns-then-x-y
returns-then-x-y c = joined_same c.args.self.now.zones c.args.self.now.sets c.args.self.now.activations c.args.at c.args.x c.args.y c.x.inside.0 c.y.inside.0 c.x.view_is c.y.view_is c.if-x-y.true

pub returns-in-None : goal.returns-in-None
returns-in-None c =
    let zones = c.self.inside.zones.value in
    let xs = c.row_of_name-of_x.result.now in
    let ys = c.row_of_name-of_y.result.now in
    let of_x = λ (q : ℕ). ap (λ l. has l q) c.row_of_name-of_x.ensures ∙ c.self.invariant.of_names c.x.inside.0 q in
    let of_y = λ (q : ℕ). ap (λ l. has l q) c.row_of_name-of_y.ensures ∙ c.self.invariant.of_names c.y.inside.0 q in
    joined_is zones c.self.inside.sets.value c.self.inside.activations c.args.at c.args.x c.args.y c.x.inside.0 c.y.inside.0 c.x.view_is c.y.view_is None xs ys xs c.share_a_place.result
    c.if-x-y.false (sym c.in-None.is ∙ c.active_set.ensures) of_x of_y (λ q e. of_x q ∙ e) c.share_a_place.ensures.common c.share_a_place.ensures.none
    ∙ ap (λ (z : ZoneRules). joined z.zones z.sets z.activations c.args.at c.args.x c.args.y) c.self.view_is

pub returns-in-Some : goal.returns-in-Some
returns-in-Some c =
    let zones = c.self.inside.zones.value in
    let xs = c.row_of_name-of_x.result.now in
    let ys = c.row_of_name-of_y.result.now in
    let zs = c.row_of_set.result.now in
    let of_x = λ (q : ℕ). ap (λ l. has l q) c.row_of_name-of_x.ensures ∙ c.self.invariant.of_names c.x.inside.0 q in
    let of_y = λ (q : ℕ). ap (λ l. has l q) c.row_of_name-of_y.ensures ∙ c.self.invariant.of_names c.y.inside.0 q in
    joined_is zones c.self.inside.sets.value c.self.inside.activations c.args.at c.args.x c.args.y c.x.inside.0 c.y.inside.0 c.x.view_is c.y.view_is (Some c.in-Some.set) xs ys zs c.share_a_place-in-Some.result
    c.if-x-y.false (sym c.in-Some.is ∙ c.active_set.ensures) of_x of_y (λ q e. has-active c.x.inside.0 zones c.self.inside.set_rows c.self.inside.sets.value c.in-Some.set q zs c.self.invariant.of_sets c.row_of_set.ensures e) c.share_a_place-in-Some.ensures.common c.share_a_place-in-Some.ensures.none
    ∙ ap (λ (z : ZoneRules). joined z.zones z.sets z.activations c.args.at c.args.x c.args.y) c.self.view_is
