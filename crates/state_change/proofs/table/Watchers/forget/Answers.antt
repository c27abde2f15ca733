use Rattle.std.proofs.Common.{◌≡◌, ◌∙◌, ℕ, List, ap, sym, arith, Some, None}
use Rattle.fab_base.proofs.KeyedLemmas as keyed
use Rattle.sorted_lists.specs.Orders.{seen}
use Rattle.state_change.specs.Watchers.{address_of, watcher_at, without}
use Rattle.state_change.proofs.WatcherLemmas.{seen_taken, HasRoom-taken}
use Rattle.state_change.proofs.table.Watchers.forget.Goals as goal

found : (c : goal.After-remove) → watcher_at c.args.address (seen c.self.inside.watchers c.self.inside.places.items) ≡ Some c.remove.result
found c = ap (λ (l : List ℕ). watcher_at c.args.address (seen c.self.inside.watchers l)) (sym c.deref.ensures.value) ∙ sym c.in-Some.ensures.some ∙ c.remove.ensures.value

items : (c : goal.After-remove) → seen c.remove.new.self c.order_take.new.places.items ≡ without c.args.address (seen c.self.inside.watchers c.self.inside.places.items)
items c =
    seen_taken _ _ _ _ c.self.invariant c.remove.result c.in-Some.place c.remove.new.self c.order_take.new.places.items c.args.address (found c) c.remove.ensures.value c.remove.ensures.updates c.order_take.ensures.but c.order_take.ensures.items

none : (c : goal.In-None) → watcher_at c.args.address (seen c.self.inside.watchers c.self.inside.places.items) ≡ None
none c = ap (λ (l : List ℕ). watcher_at c.args.address (seen c.self.inside.watchers l)) (sym c.deref.ensures.value) ∙ c.in-None.ensures.none

stays : (c : goal.In-None) → seen c.self.inside.watchers c.self.inside.places.items ≡ without c.args.address (seen c.self.inside.watchers c.self.inside.places.items)
stays c = sym (keyed.without-absent address_of c.args.address _ (none c))

pub invariant_of-self : goal.invariant_of-self
invariant_of-self c =
    HasRoom-taken _ _ _ _ c.self.invariant c.remove.result c.in-Some.place c.remove.new.self c.order_take.new.places.items c.args.address (found c) c.remove.ensures.value c.remove.ensures.updates c.order_take.ensures.but c.order_take.ensures.items
    _ c.remove.ensures.len c.remove.ensures.capacity c.order_take.ensures.capacity

pub returns-in-Some-clause-count : goal.returns-in-Some-clause-count
returns-in-Some-clause-count c = rw (items c, ← c.self.view_is) (keyed.length-without address_of c.args.address (seen c.self.inside.watchers c.self.inside.places.items))

pub returns-in-Some-clause-room : goal.returns-in-Some-clause-room
returns-in-Some-clause-room c = λ gone.
    rw (items c) (omega (arith, c.self.invariant.sound.bound, keyed.length-without_there address_of c.args.address (seen c.self.inside.watchers c.self.inside.places.items) _ (found c)))

pub returns-in-Some-clause-watchers : goal.returns-in-Some-clause-watchers
returns-in-Some-clause-watchers c = rw (← c.self.view_is) (ap (λ l. record { room = c.self.inside.room; watchers = l }) (items c))

pub returns-in-Some-clause-sound : goal.returns-in-Some-clause-sound
returns-in-Some-clause-sound c = (invariant_of-self c).sound

pub returns-in-Some-clause-found : goal.returns-in-Some-clause-found
returns-in-Some-clause-found c = rw (items c, ← c.self.view_is) (λ a. keyed.item_at-without address_of c.args.address a (seen c.self.inside.watchers c.self.inside.places.items))

pub returns-in-None-clause-watchers : goal.returns-in-None-clause-watchers
returns-in-None-clause-watchers c = rw (← c.self.view_is) (ap (λ l. record { room = c.self.inside.room; watchers = l }) (stays c))
