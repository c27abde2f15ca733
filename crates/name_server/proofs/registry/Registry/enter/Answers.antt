use Rattle.std.proofs.Common.{◌≡◌, ◌∙◌, ap, subst, arith, Some, None}
use Rattle.fab_base.specs.Keyed as spec
use Rattle.fab_base.proofs.KeyedLemmas as keyed
use Rattle.slab.specs.Slab.{Updates}
use Rattle.name_server.specs.Registry.{Entry, address_of, entered, added}
use Rattle.name_server.specs.Places.{placed_address, entries_of}
use Rattle.name_server.specs.declared.placed.Placed.{Placed}
use Rattle.name_server.proofs.PlaceLemmas.{absent_place, length_places, sound_places}
use Rattle.name_server.proofs.ChangeLemmas.{entries_added, places_added}
use Rattle.name_server.proofs.registry.Registry.enter.Goals as goal

pub insert_reserved-place-requires : goal.insert_reserved-place-requires
insert_reserved-place-requires c =
    let room = rw (← c.self.view_is) at c.requires.room in
    omega (arith, room, length_places c.self.invariant, c.self.invariant.count, c.self.invariant.room)

pub rank_put-requires-clause-absent : goal.rank_put-requires-clause-absent
rank_put-requires-clause-absent c =
    let absent = rw (← c.self.view_is) at c.requires.address in
    rw c.new-2.ensures.value (absent_place c.self.invariant c.args.address absent)

pub rank_put-requires-clause-room : goal.rank_put-requires-clause-room
rank_put-requires-clause-room c =
    let room = rw (← c.self.view_is) at c.requires.room in
    omega (arith, room, length_places c.self.invariant, c.self.invariant.index_room)

absent : (c : goal.After-rank_put) → spec.item_at placed_address c.args.address c.self.inside.index.items ≡ None
absent c =
    let none = rw (← c.self.view_is) at c.requires.address in
    absent_place c.self.invariant c.args.address none

updates : (c : goal.After-rank_put) → Updates c.self.inside.entries c.insert_reserved-place.new.self c.insert_reserved-place.result (Some (entered c.args.address c.args.node))
updates c = subst (λ (e : Entry). Updates c.self.inside.entries c.insert_reserved-place.new.self c.insert_reserved-place.result (Some e)) c.new.ensures.value c.insert_reserved-place.ensures.updates

index : (c : goal.After-rank_put) → c.rank_put.new.items.items ≡ spec.added placed_address (record { address = c.args.address; place = c.insert_reserved-place.result }) c.self.inside.index.items
index c = c.rank_put.ensures.items ∙ ap (λ (d : Placed). spec.added placed_address d c.self.inside.index.items) c.new-2.ensures.value

entries : (c : goal.After-rank_put) → entries_of c.insert_reserved-place.new.self c.rank_put.new.items.items ≡ added (entered c.args.address c.args.node) (entries_of c.self.inside.entries c.self.inside.index.items)
entries c =
    ap (entries_of c.insert_reserved-place.new.self) (index c)
    ∙ entries_added c.self.invariant c.insert_reserved-place.new.self c.insert_reserved-place.result c.args.address c.args.node c.insert_reserved-place.ensures.was_vacant (updates c)
    c.insert_reserved-place.ensures.key_in_range c.insert_reserved-place.ensures.capacity (absent c)

pub invariant_of-self : goal.invariant_of-self
invariant_of-self c =
    let room = rw (← c.self.view_is) at c.requires.room in
    rw (index c, c.rank_put.ensures.capacity) (places_added c.self.invariant c.insert_reserved-place.new.self c.insert_reserved-place.result c.args.address c.args.node c.insert_reserved-place.ensures.was_vacant (updates c)
    c.insert_reserved-place.ensures.key_in_range c.insert_reserved-place.ensures.capacity (absent c) (omega (arith, room, length_places c.self.invariant)) c.insert_reserved-place.ensures.len)

pub returns-clause-entries : goal.returns-clause-entries
returns-clause-entries c = rw (← c.self.view_is) (ap (λ l. record { room = c.self.inside.room; entries = l }) (entries c))

pub returns-clause-sound : goal.returns-clause-sound
returns-clause-sound c = sound_places (invariant_of-self c)

pub returns-clause-found : goal.returns-clause-found
returns-clause-found c = rw (entries c, ← c.self.view_is) (keyed.item_at-added address_of (entered c.args.address c.args.node) (entries_of c.self.inside.entries c.self.inside.index.items))
