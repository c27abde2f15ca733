use Rattle.std.proofs.Common.{◌≡◌, ◌∙◌, ap, arith}
use Rattle.fab_base.proofs.KeyedLemmas as keyed
use Rattle.sorted_lists.specs.Orders.{seen}
use Rattle.login_table.specs.Logins.{address_of, name_of, added}
use Rattle.login_table.specs.Sound.{behind_number, FitsLogin}
use Rattle.login_table.proofs.LoginLemmas.{IsSound-added, named-added}
use Rattle.login_table.proofs.KeptLemmas.{count, named_found, absent_enode, but_address, but_name, but_enode, still_absent, seen_added}
use Rattle.login_table.proofs.table.LoginTable.add.Goals as goal

pub insert_reserved-place-requires : goal.insert_reserved-place-requires
insert_reserved-place-requires c =
    let room = rw (← c.self.view_is) at c.requires.room in
    omega (arith, room, count c.self.invariant, c.self.invariant.room)

-- ---- the place is put into each order

pub order_put-requires-clause-but : goal.order_put-requires-clause-but
order_put-requires-clause-but c = but_address c.self.invariant c.insert_reserved-place.new.self c.insert_reserved-place.result c.args.login c.insert_reserved-place.ensures.was_vacant c.insert_reserved-place.ensures.updates c.insert_reserved-place.ensures.len

pub order_put-requires-clause-absent : goal.order_put-requires-clause-absent
order_put-requires-clause-absent c =
    let absent = rw (← c.self.view_is) at c.requires.address in
    still_absent c.self.invariant c.insert_reserved-place.new.self c.insert_reserved-place.result c.args.login c.insert_reserved-place.ensures.was_vacant c.insert_reserved-place.ensures.updates c.insert_reserved-place.ensures.len
    address_of _ (order_put-requires-clause-but c) absent

pub order_put-requires-clause-room : goal.order_put-requires-clause-room
order_put-requires-clause-room c =
    let room = rw (← c.self.view_is) at c.requires.room in
    omega (arith, room, count c.self.invariant, c.self.invariant.by_address.count, c.self.invariant.address_room)

pub order_put-requires-2-clause-but : goal.order_put-requires-2-clause-but
order_put-requires-2-clause-but c = but_name c.self.invariant c.insert_reserved-place.new.self c.insert_reserved-place.result c.args.login c.insert_reserved-place.ensures.was_vacant c.insert_reserved-place.ensures.updates c.insert_reserved-place.ensures.len

pub order_put-requires-2-clause-absent : goal.order_put-requires-2-clause-absent
order_put-requires-2-clause-absent c =
    let unnamed = rw (← c.self.view_is) at c.requires.name in
    still_absent c.self.invariant c.insert_reserved-place.new.self c.insert_reserved-place.result c.args.login c.insert_reserved-place.ensures.was_vacant c.insert_reserved-place.ensures.updates c.insert_reserved-place.ensures.len
    name_of _ (order_put-requires-2-clause-but c) (named_found c.self.invariant _ ∙ unnamed)

pub order_put-requires-2-clause-room : goal.order_put-requires-2-clause-room
order_put-requires-2-clause-room c =
    let room = rw (← c.self.view_is) at c.requires.room in
    omega (arith, room, count c.self.invariant, c.self.invariant.by_name.count, c.self.invariant.name_room)

pub order_put-requires-3-clause-but : goal.order_put-requires-3-clause-but
order_put-requires-3-clause-but c = but_enode c.self.invariant c.insert_reserved-place.new.self c.insert_reserved-place.result c.args.login c.insert_reserved-place.ensures.was_vacant c.insert_reserved-place.ensures.updates c.insert_reserved-place.ensures.len

pub order_put-requires-3-clause-absent : goal.order_put-requires-3-clause-absent
order_put-requires-3-clause-absent c =
    let absent = rw (← c.self.view_is) at c.requires.address in
    still_absent c.self.invariant c.insert_reserved-place.new.self c.insert_reserved-place.result c.args.login c.insert_reserved-place.ensures.was_vacant c.insert_reserved-place.ensures.updates c.insert_reserved-place.ensures.len
    behind_number _ (order_put-requires-3-clause-but c) (absent_enode c.self.invariant c.args.login c.known.ensures absent)

pub order_put-requires-3-clause-room : goal.order_put-requires-3-clause-room
order_put-requires-3-clause-room c =
    let room = rw (← c.self.view_is) at c.requires.room in
    omega (arith, room, count c.self.invariant, c.self.invariant.by_enode.count, c.self.invariant.enode_room)

-- ---- what the table is then

items : (c : goal.After-order_put-3) → seen c.insert_reserved-place.new.self c.order_put.new.places.items ≡ added c.args.login (seen c.self.inside.logins c.self.inside.by_address.items)
items c =
    seen_added c.self.invariant c.insert_reserved-place.new.self c.insert_reserved-place.result c.args.login c.insert_reserved-place.ensures.was_vacant c.insert_reserved-place.ensures.updates c.insert_reserved-place.ensures.len
    _ c.order_put.ensures.items

pub invariant_of-self : goal.invariant_of-self
invariant_of-self c =
    let absent = rw (← c.self.view_is) at c.requires.address in
    let unnamed = rw (← c.self.view_is) at c.requires.name in
    let kept = c.self.invariant in
    let room = rw (← c.self.view_is) at c.requires.room in
    record {
      sound = rw (items c) (IsSound-added c.args.login _ kept.sound room absent unnamed);
      fit = rw (items c) (keyed.All-added address_of FitsLogin c.args.login _ kept.fit c.known.ensures);
      by_address = c.order_put.ensures.order;
      by_name = c.order_put-2.ensures.order;
      by_enode = c.order_put-3.ensures.order;
      room = omega (arith, kept.room, c.insert_reserved-place.ensures.capacity);
      address_room = omega (arith, kept.address_room, c.order_put.ensures.capacity);
      name_room = omega (arith, kept.name_room, c.order_put-2.ensures.capacity);
      enode_room = omega (arith, kept.enode_room, c.order_put-3.ensures.capacity);
      range = kept.range;
    }

pub returns-clause-logins : goal.returns-clause-logins
returns-clause-logins c = rw (← c.self.view_is) (ap (λ l. record { limit = c.self.inside.limit; logins = l }) (items c))

pub returns-clause-sound : goal.returns-clause-sound
returns-clause-sound c = (invariant_of-self c).sound

pub returns-clause-found : goal.returns-clause-found
returns-clause-found c = rw (items c, ← c.self.view_is) (keyed.item_at-added address_of c.args.login (seen c.self.inside.logins c.self.inside.by_address.items))

pub returns-clause-named : goal.returns-clause-named
returns-clause-named c =
    let absent = rw (← c.self.view_is) at c.requires.address in
    let unnamed = rw (← c.self.view_is) at c.requires.name in
    rw (items c, ← c.self.view_is) (named-added c.args.login 0 (seen c.self.inside.logins c.self.inside.by_address.items) c.self.invariant.sound.ascending absent unnamed)
