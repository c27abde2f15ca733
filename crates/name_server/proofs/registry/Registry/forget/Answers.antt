use Rattle.std.proofs.Common.{◌≡◌, ◌∙◌, ℕ, refl, ◌<◌, ◌==◌, if◌then◌else◌, ap, sym, subst, arith, Some, None, is_some, length}
use Rattle.std.specs.Vec.{vec_capacity}
use Rattle.fab_base.specs.Keyed as spec
use Rattle.fab_base.proofs.KeyedLemmas as keyed
use Rattle.sorted_lists.specs.Row.{has}
use Rattle.ct_messages.specs.Answer.{has_type}
use Rattle.ct_messages.specs.Server.{NO_TYPES}
use Rattle.name_server.specs.Registry.{address_of, entry_at, without}
use Rattle.name_server.specs.Places.{placed_address, entries_of, row_of, AreWide, HasPlaces}
use Rattle.name_server.proofs.PlaceLemmas.{entry_in, entry_found, place_is, place_none, absent_place, sound_places}
use Rattle.name_server.proofs.ChangeLemmas.{at, place_fits, entries_without, places_without}
use Rattle.name_server.proofs.TypeLemmas.{whole}
use Rattle.name_server.proofs.registry.Registry.forget.Goals as goal

pub remove-requires : goal.remove-requires
remove-requires c = ap is_some (at c.self.invariant c.args.address _ (place_is c.self.invariant c.args.address _ _ c.in-Some.place c.take_place.ensures.place refl c.in-Some.is)).here

pub put_types-requires : goal.put_types-requires
put_types-requires c =
    let found = place_is c.self.invariant c.args.address _ _ c.in-Some.place c.take_place.ensures.place refl c.in-Some.is in
    record { wide = (c.self.invariant.words, subst (λ l. AreWide c.self.invariant.words l) (sym c.deref_mut.ensures.value) c.self.invariant.wide, place_fits c.self.invariant c.args.address _ found) }

found : (c : goal.After-self-1) → spec.item_at placed_address c.args.address c.self.inside.index.items ≡ Some (record { address = c.args.address; place = c.in-Some.place })
found c = place_is c.self.invariant c.args.address _ _ c.in-Some.place c.take_place.ensures.place refl c.in-Some.is

wide : (c : goal.After-self-1) → AreWide c.self.invariant.words c.put_types.new.rows
wide c = c.put_types.ensures.wide c.self.invariant.words (subst (λ l. AreWide c.self.invariant.words l) (sym c.deref_mut.ensures.value) c.self.invariant.wide)

bits : (c : goal.After-self-1) → (kind q : ℕ) → kind < 256 → has (row_of c.put_types.new.rows kind) q ≡ (if c.in-Some.place == q then has_type NO_TYPES kind else has (row_of c.self.inside.types.items kind) q)
bits c = λ kind q lt. c.put_types.ensures.bits kind q lt ∙ ap (λ l. if c.in-Some.place == q then has_type NO_TYPES kind else has (row_of l kind) q) c.deref_mut.ensures.value

entries : (c : goal.After-self-1) → entries_of c.remove.new.self c.take_place.new.index.items ≡ without c.args.address (entries_of c.self.inside.entries c.self.inside.index.items)
entries c = ap (entries_of c.remove.new.self) c.take_place.ensures.items ∙ entries_without c.self.invariant c.args.address _ (found c) c.remove.new.self c.remove.ensures.updates c.remove.ensures.capacity

kept : (c : goal.After-self-1) → HasPlaces c.self.inside.room c.remove.new.self (spec.without placed_address c.args.address c.self.inside.index.items) c.put_types.new.rows (vec_capacity c.self.inside.index)
kept c = places_without c.self.invariant c.args.address _ (found c) c.remove.new.self c.remove.ensures.updates c.remove.ensures.capacity c.put_types.new.rows c.remove.ensures.len (wide c) (bits c)

pub invariant_of-self : goal.invariant_of-self
invariant_of-self c =
    let count = c.self.invariant.wide.count in
    rw (whole c.self.inside.types.len c.put_types.new.rows c.self.inside.types.items (omega (arith, ap length c.deref_mut.ensures.value, c.deref_mut.ensures.len)) (omega (arith, count, (wide c).count)), c.take_place.ensures.items, c.take_place.ensures.capacity) (kept c)

none : (c : goal.In-None) → entry_at c.args.address (entries_of c.self.inside.entries c.self.inside.index.items) ≡ None
none c = place_none c.self.invariant c.args.address _ _ c.take_place.ensures.place refl c.in-None.is

index : (c : goal.In-None) → c.take_place.new.index.items ≡ c.self.inside.index.items
index c = c.take_place.ensures.items ∙ keyed.without-absent placed_address c.args.address _ (absent_place c.self.invariant c.args.address (none c))

stays : (c : goal.In-None) → entries_of c.self.inside.entries c.take_place.new.index.items ≡ without c.args.address (entries_of c.self.inside.entries c.self.inside.index.items)
stays c = ap (entries_of c.self.inside.entries) (index c) ∙ sym (keyed.without-absent address_of c.args.address _ (none c))

pub invariant_of-self-in-None : goal.invariant_of-self-in-None
invariant_of-self-in-None c = rw (index c, c.take_place.ensures.capacity) c.self.invariant

pub returns-in-Some-clause-there : goal.returns-in-Some-clause-there
returns-in-Some-clause-there c =
    let here = at c.self.invariant c.args.address _ (found c) in
    rw (← c.self.view_is) (sym (ap is_some (entry_found c.self.invariant c.args.address ∙ ap (entry_in c.self.inside.entries) (found c) ∙ here.here)))

pub returns-in-Some-clause-entries : goal.returns-in-Some-clause-entries
returns-in-Some-clause-entries c = rw (← c.self.view_is) (ap (λ l. record { room = c.self.inside.room; entries = l }) (entries c))

pub returns-in-Some-clause-sound : goal.returns-in-Some-clause-sound
returns-in-Some-clause-sound c = sound_places (invariant_of-self c)

pub returns-in-Some-clause-found : goal.returns-in-Some-clause-found
returns-in-Some-clause-found c = rw (entries c, ← c.self.view_is) (λ a. keyed.item_at-without address_of c.args.address a (entries_of c.self.inside.entries c.self.inside.index.items))

pub returns-in-None-clause-there : goal.returns-in-None-clause-there
returns-in-None-clause-there c = rw (← c.self.view_is) (sym (ap is_some (none c)))

pub returns-in-None-clause-entries : goal.returns-in-None-clause-entries
returns-in-None-clause-entries c = rw (← c.self.view_is) (ap (λ l. record { room = c.self.inside.room; entries = l }) (stays c))

pub returns-in-None-clause-absent : goal.returns-in-None-clause-absent
returns-in-None-clause-absent c = λ none. ap (λ l. record { room = c.self.inside.room; entries = entries_of c.self.inside.entries l }) (index c) ∙ c.self.view_is

pub returns-in-None-clause-sound : goal.returns-in-None-clause-sound
returns-in-None-clause-sound c = sound_places (invariant_of-self-in-None c)

pub returns-in-None-clause-found : goal.returns-in-None-clause-found
returns-in-None-clause-found c = rw (stays c, ← c.self.view_is) (λ a. keyed.item_at-without address_of c.args.address a (entries_of c.self.inside.entries c.self.inside.index.items))
