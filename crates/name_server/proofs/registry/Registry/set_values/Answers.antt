use Rattle.std.proofs.Common.{◌≡◌, ◌∙◌, ℕ, ◌<◌, ◌==◌, if◌then◌else◌, refl, ap, sym, subst, arith, Some, is_some, length}
use Rattle.std.specs.Option.{option_copied_mut}
use Rattle.slab.specs.Slab.{Updates, with_value}
use Rattle.slab.proofs.SlabLemmas.{Updates-with_value}
use Rattle.fab_base.specs.Keyed as spec
use Rattle.fab_base.proofs.KeyedLemmas as keyed
use Rattle.sorted_lists.specs.Row.{has}
use Rattle.sorted_lists.proofs.IndexLemmas.{none_some, some_same}
use Rattle.ct_messages.specs.Answer.{has_type}
use Rattle.name_server.specs.Registry.{Entry, IsKept, address_of, entry_at, revalued, with_values}
use Rattle.name_server.specs.Places.{placed_address, entries_of, row_of, AreWide, Holds}
use Rattle.name_server.proofs.SeenLemmas.{not_there}
use Rattle.name_server.proofs.PlaceLemmas.{entry_in, entry_found, place_is, place_none, sound_places}
use Rattle.name_server.proofs.ChangeLemmas.{at, place_fits, slab_len-with_value, entries_changed, places_changed}
use Rattle.name_server.proofs.TypeLemmas.{whole}
use Rattle.name_server.proofs.registry.Registry.set_values.Goals as goal

pub unreachable-requires : goal.unreachable-requires
unreachable-requires c =
    let some = rw (← c.self.view_is) at c.requires in
    not_there _ some (place_none c.self.invariant c.args.address _ _ c.place_of.ensures c.deref.ensures.value c.in_default.is)

pub unreachable-requires-in_default-get_mut : goal.unreachable-requires-in_default-get_mut
unreachable-requires-in_default-get_mut c =
    let found = place_is c.self.invariant c.args.address _ _ c.in-Some.place c.place_of.ensures c.deref.ensures.value c.in-Some.is in
    none_some _ (sym (ap option_copied_mut c.in_default-get_mut.is) ∙ c.get_mut.follows ∙ (at c.self.invariant c.args.address _ found).here)

pub put_types-requires : goal.put_types-requires
put_types-requires c =
    let found = place_is c.self.invariant c.args.address _ _ c.in-Some.place c.place_of.ensures c.deref.ensures.value c.in-Some.is in
    record { wide = (c.self.invariant.words, subst (λ l. AreWide c.self.invariant.words l) (sym c.deref_mut.ensures.value) c.self.invariant.wide, place_fits c.self.invariant c.args.address _ found) }

found : (c : goal.After-self-3-1) → spec.item_at placed_address c.args.address c.self.inside.index.items ≡ Some (record { address = c.args.address; place = c.in-Some.place })
found c = place_is c.self.invariant c.args.address _ _ c.in-Some.place c.place_of.ensures c.deref.ensures.value c.in-Some.is

-- the asker's entry
abbrev old : (c : goal.After-self-3-1) → Holds c.self.inside.entries (record { address = c.args.address; place = c.in-Some.place })
old c = at c.self.invariant c.args.address _ (found c)

old_is : (c : goal.After-self-3-1) → c.in-Some-get_mut.entry.now ≡ (old c).entry
old_is c = some_same _ _ (sym (ap option_copied_mut c.in-Some-get_mut.is) ∙ c.get_mut.follows ∙ (old c).here)

new_is : (c : goal.After-self-3-1) → c.set_values.new.self ≡ revalued c.args.values.now (old c).entry
new_is c = c.set_values.ensures.entry ∙ ap (revalued c.args.values.now) (old_is c)

here : (c : goal.After-self-3-1) → entry_at c.args.address (entries_of c.self.inside.entries c.self.inside.index.items) ≡ Some (old c).entry
here c = entry_found c.self.invariant c.args.address ∙ ap (entry_in c.self.inside.entries) (found c) ∙ (old c).here

updates : (c : goal.After-self-3-1) → Updates c.self.inside.entries (with_value c.self.inside.entries c.in-Some.place c.set_values.new.self) c.in-Some.place (Some (revalued c.args.values.now (old c).entry))
updates c =
    subst (λ (e : Entry). Updates c.self.inside.entries (with_value c.self.inside.entries c.in-Some.place c.set_values.new.self) c.in-Some.place (Some e)) (new_is c)
    (Updates-with_value c.self.inside.entries c.in-Some.place c.set_values.new.self (ap is_some (old c).here))

kept : (c : goal.After-self-3-1) → IsKept (revalued c.args.values.now (old c).entry).values
kept c = subst (λ (e : Entry). IsKept e.values) (new_is c) c.set_values.ensures.kept

wide : (c : goal.After-self-3-1) → AreWide c.self.invariant.words c.put_types.new.rows
wide c = c.put_types.ensures.wide c.self.invariant.words (subst (λ l. AreWide c.self.invariant.words l) (sym c.deref_mut.ensures.value) c.self.invariant.wide)

bits : (c : goal.After-self-3-1) → (kind q : ℕ) → kind < 256
    → has (row_of c.put_types.new.rows kind) q ≡ (if c.in-Some.place == q then has_type c.types.result kind else has (row_of c.self.inside.types.items kind) q)
bits c = λ kind q lt. c.put_types.ensures.bits kind q lt ∙ ap (λ l. if c.in-Some.place == q then has_type c.types.result kind else has (row_of l kind) q) c.deref_mut.ensures.value

entries : (c : goal.After-self-3-1) → entries_of (with_value c.self.inside.entries c.in-Some.place c.set_values.new.self) c.self.inside.index.items
    ≡ with_values c.args.address c.args.values.now (entries_of c.self.inside.entries c.self.inside.index.items)
entries c = entries_changed c.self.invariant c.args.address _ (found c) (revalued c.args.values.now) (λ e. refl) _ (updates c) refl (kept c)

pub invariant_of-self : goal.invariant_of-self
invariant_of-self c =
    let count = c.self.invariant.wide.count in
    let types = c.types.ensures in
    rw (whole c.self.inside.types.len c.put_types.new.rows c.self.inside.types.items (omega (arith, ap length c.deref_mut.ensures.value, c.deref_mut.ensures.len)) (omega (arith, count, (wide c).count)))
    (places_changed c.self.invariant c.args.address _ (found c) (revalued c.args.values.now) (λ e. refl) _ (updates c) refl (kept c)
    c.put_types.new.rows c.types.result (slab_len-with_value c.self.inside.entries c.in-Some.place (old c).entry c.set_values.new.self (old c).here) (wide c) types (bits c))

pub returns-clause-entries : goal.returns-clause-entries
returns-clause-entries c = rw (← c.self.view_is) (ap (λ l. record { room = c.self.inside.room; entries = l }) (entries c))

pub returns-clause-found : goal.returns-clause-found
returns-clause-found c = rw (entries c, ← c.self.view_is) (λ a. keyed.item_at-changed address_of (revalued c.args.values.now) (λ e. refl) c.args.address a (entries_of c.self.inside.entries c.self.inside.index.items))

pub returns-clause-sound : goal.returns-clause-sound
returns-clause-sound c = sound_places (invariant_of-self c)
