use Rattle.std.proofs.Common.{◌==◌, not, filter, refl, sym, ap, ◌∙◌}
use Rattle.std.specs.List.{list_any}
use Rattle.fab_base.proofs.KeyedLemmas.{AscendFrom-filter}
use Rattle.login_table.specs.Logins as logins
use Rattle.state_change.specs.Watchers.{address_of}
use Rattle.zone_rules.specs.Joined.{contains}
use Rattle.fab_config.proofs.ListLemmas.{any_map}
use Rattle.fab_roster.specs.Reaching.{is_reached}
use Rattle.fab_roster.specs.Roll.{Login, addresses_of}
use Rattle.fab_roster.proofs.Reached.{left}
use Rattle.fab_roster.proofs.Walks.{IsNext, next_some, one_picked, none_picked, walk_starts, walk_goes_on, walk_ends}
use Rattle.fab_roster.proofs.reaching.reached.Goals as goal
use Rattle.fab_roster.proofs.reaching.reached.Goals.{then-not-hold+in_ok-push, else-not-hold}

pub loop-address-init : goal.loop-address-init
loop-address-init c =
    walk_starts address_of (left (addresses_of c.args.but.now)) (filter (is_reached c.args.zones.now c.args.name c.args.reach.now) c.args.watchers.now.watchers) _ c.empty-ids.ensures

next : (c : goal.After-value-from) → IsNext address_of c.loop-address.from (filter (is_reached c.args.zones.now c.args.name c.args.reach.now) c.args.watchers.now.watchers) c.in-Some.address
next c =
    let q = is_reached c.args.zones.now c.args.name c.args.reach.now in
    let ws = c.args.watchers.now.watchers in
    next_some address_of 0 c.loop-address.from c.in-Some.address (filter q ws) (AscendFrom-filter address_of q 0 ws c.in-Some.ensures.sound.ascending) c.in-Some.ensures.first

pub loop-address-smaller : goal.loop-address-smaller
loop-address-smaller c =
    walk_goes_on c.loop-address.from c.in-Some.address c.value-from.result (next c).above c.value-from.ensures.value c.value-from.ensures.range

pub loop-address-preserved : goal.loop-address-preserved
loop-address-preserved c =
    let ws = filter (is_reached c.args.zones.now c.args.name c.args.reach.now) c.args.watchers.now.watchers in
    let but = addresses_of c.args.but.now in
    let n = next c in
    let tested = ap (λ a. not (contains a but)) n.at ∙ ap not (any_map (λ y. y == c.in-Some.address) logins.address_of c.args.but.now ∙ (ap (list_any (λ (l : Login). l.address == c.in-Some.address)) (sym c.items.ensures) ∙ sym c.hold.ensures)) in
    elim c.if-not-hold.branch [
      | then-not-hold+in_ok-push w ↦
          one_picked address_of address_of (λ x. not (contains x.address but)) c.loop-address.from c.in-Some.address c.value-from.result ws c.loop-address.ids c.if-not-hold.ids
          n c.in-Some.address (sym n.at) (tested ∙ ap not w.if-not-hold.true) c.value-from.ensures.value (w.ids-is ∙ w.in_ok-push.ensures.ok) c.loop-address.invariant
      | else-not-hold w ↦
          none_picked address_of address_of (λ x. not (contains x.address but)) c.loop-address.from c.in-Some.address c.value-from.result ws c.loop-address.ids c.if-not-hold.ids
          n (tested ∙ ap not w.if-not-hold.false) c.value-from.ensures.value w.ids-is c.loop-address.invariant
    ]

pub returns : goal.returns
returns c =
    walk_ends address_of (left (addresses_of c.args.but.now)) c.loop-address.from (filter (is_reached c.args.zones.now c.args.name c.args.reach.now) c.args.watchers.now.watchers) c.loop-address.ids refl
    c.in_default.ensures.first c.loop-address.invariant
