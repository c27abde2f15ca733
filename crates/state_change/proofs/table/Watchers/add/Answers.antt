use Rattle.std.proofs.Common.{◌≡◌, ap}
use Rattle.fab_base.proofs.KeyedLemmas as keyed
use Rattle.sorted_lists.specs.Orders.{seen}
use Rattle.state_change.specs.Watchers.{address_of, set_to}
use Rattle.state_change.proofs.WatcherLemmas.{room_for, room_in, order_filled, absent_filled, seen_put, HasRoom-put}
use Rattle.state_change.proofs.table.Watchers.add.Goals as goal

pub insert_reserved-place-requires : goal.insert_reserved-place-requires
insert_reserved-place-requires c = room_for _ _ _ _ c.self.invariant (rw (← c.self.view_is) at c.requires.room)

pub order_put-requires-clause-but : goal.order_put-requires-clause-but
order_put-requires-clause-but c =
    order_filled _ _ _ _ c.self.invariant c.args.watcher c.insert_reserved-place.result c.insert_reserved-place.new.self c.insert_reserved-place.ensures.was_vacant c.insert_reserved-place.ensures.updates c.insert_reserved-place.ensures.len

pub order_put-requires-clause-absent : goal.order_put-requires-clause-absent
order_put-requires-clause-absent c =
    absent_filled _ _ _ _ c.self.invariant c.args.watcher c.insert_reserved-place.result c.insert_reserved-place.new.self c.insert_reserved-place.ensures.was_vacant c.insert_reserved-place.ensures.updates (rw (← c.self.view_is) at c.requires.address)

pub order_put-requires-clause-room : goal.order_put-requires-clause-room
order_put-requires-clause-room c = room_in _ _ _ _ c.self.invariant (rw (← c.self.view_is) at c.requires.room)

items : (c : goal.After-order_put) → seen c.insert_reserved-place.new.self c.order_put.new.places.items ≡ set_to c.args.watcher (seen c.self.inside.watchers c.self.inside.places.items)
items c =
    seen_put _ _ _ _ c.self.invariant c.args.watcher c.insert_reserved-place.result c.insert_reserved-place.new.self c.insert_reserved-place.ensures.was_vacant c.insert_reserved-place.ensures.updates c.order_put.new.places.items c.order_put.ensures.items

pub invariant_of-self : goal.invariant_of-self
invariant_of-self c =
    HasRoom-put _ _ _ _ c.self.invariant c.args.watcher c.insert_reserved-place.result c.insert_reserved-place.new.self c.insert_reserved-place.ensures.was_vacant c.insert_reserved-place.ensures.updates c.order_put.new.places.items c.order_put.ensures.items
    _ c.order_put.ensures.order (rw (← c.self.view_is) at c.requires.room) (rw (← c.self.view_is) at c.requires.address) c.requires.function c.insert_reserved-place.ensures.capacity c.order_put.ensures.capacity

pub returns-clause-watchers : goal.returns-clause-watchers
returns-clause-watchers c = rw (← c.self.view_is) (ap (λ l. record { room = c.self.inside.room; watchers = l }) (items c))

pub returns-clause-count : goal.returns-clause-count
returns-clause-count c =
    rw (items c, ← c.self.view_is) (keyed.length-added address_of c.args.watcher 0 (seen c.self.inside.watchers c.self.inside.places.items) c.self.invariant.sound.ascending (rw (← c.self.view_is) at c.requires.address))

pub returns-clause-sound : goal.returns-clause-sound
returns-clause-sound c = (invariant_of-self c).sound

pub returns-clause-found : goal.returns-clause-found
returns-clause-found c = rw (items c, ← c.self.view_is) (keyed.item_at-added address_of c.args.watcher (seen c.self.inside.watchers c.self.inside.places.items))
