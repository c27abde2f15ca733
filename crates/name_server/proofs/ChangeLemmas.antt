-- What a registry keeps of its places stays so when an entry is put in, taken out, or changed.
use Rattle.std.proofs.Common.{◌≡◌, ◌≢◌, ℕ, ◌+◌, ◌%◌, ◌/◌, ◌^◌, ◌<◌, ◌≤◌, ◌==◌, ◌⊎◌, inl, inr, not, Bool, true, false, cond, if◌then◌else◌, List, [], ◌∷◌, length, filter, replicate, Option, Some, None, is_some, Vec, option_map, slice_index, refl, sym, ◌∙◌, ap, arith}
use Rattle.std.specs.List.{All}
use Rattle.std.specs.declared.alloc.Global.{Global}
use Rattle.std.proofs.lemmas.Bool.{cases_lt, cases_eq}
use Rattle.std.proofs.lemmas.Bool.Decides.{nat_tests}
use Rattle.std.proofs.lemmas.Nat.Bits.{bit_at-zero}
use Rattle.std.proofs.lemmas.List.{get_or-replicate, get_or_past, length-replicate}
use Rattle.std.proofs.lemmas.List.Sums.{sum_by-set}
use Rattle.std.proofs.lemmas.List.Elements.{All-cons, All-head, All-tail, All-weaker}
use Rattle.slab.specs.Slab.{Slab, get, slab_len, Updates, with_value}
use Rattle.slab.proofs.SlabLemmas.{ContainsKey-within}
use Rattle.fab_base.specs.Keyed.{item_at, changed_if}
use Rattle.fab_base.specs.Keyed as spec
use Rattle.fab_base.proofs.KeyedLemmas as keyed
use Rattle.sorted_lists.specs.Row.{has}
use Rattle.sorted_lists.proofs.IndexLemmas.{key_found, none_some, some_same, equal, unequal, differs, length-gone, kept-without, here-added, kept-added}
use Rattle.ct_messages.specs.Answer.{has_type}
use Rattle.ct_messages.specs.Server.{NO_TYPES}
use Rattle.ct_messages.specs.declared.TypeMap.{TypeMap}
use Rattle.name_server.specs.Registry.{Entry, IsKept, address_of, entry_at, entered, added, without}
use Rattle.name_server.specs.Places.{placed_address, entries_of, Holds, AreWide, row_of, is_of_type, HasPlaces}
use Rattle.name_server.specs.declared.placed.Placed.{Placed}
use Rattle.name_server.proofs.FeatureLemmas.{first_kept}
use Rattle.name_server.proofs.PlaceLemmas.{entry_in, entries_are, entries_ascend, held, entry_found}

-- nothing is registered of a type in an empty map
pub no_type : (kind : ℕ) → has_type NO_TYPES kind ≡ false
no_type kind = ap (λ n. n / 2 ^ (kind % 32) % 2 == 1) (word (cases_lt (kind / 32) 8)) ∙ ap (λ n. n == 1) (bit_at-zero (kind % 32))
  where
    word : (kind / 32 < 8) ⊎ (8 ≤ kind / 32) → slice_index (replicate {A = ℕ} 8 0) (kind / 32) ≡ 0
    word (inl lt) = get_or-replicate 8 (kind / 32) 0 0 lt
    word (inr ge) = get_or_past (replicate {A = ℕ} 8 0) (kind / 32) 0 (omega (arith, ge, length-replicate {A = ℕ} 8 0))

-- what holds of those that pass holds of all that are left
All-passing : {X : Type 0} (q : X → Bool) (P : X → Type 0) (xs : List X) → All (λ x. q x ≡ true → P x) xs → All P (filter q xs)
All-passing q P [] all = λ i d lt. absurd (omega (arith, lt))
All-passing q P (x ∷ xs) all = go (q x) (All-head (λ y. q y ≡ true → P y) x xs all) (All-passing q P xs (All-tail (λ y. q y ≡ true → P y) x xs all))
  where
    go : (b : Bool) → (b ≡ true → P x) → All P (filter q xs) → All P (cond b (x ∷ filter q xs) (filter q xs))
    go true this rest = All-cons P x (filter q xs) (this refl) rest
    go false this rest = rest

-- a slot with an entry that gets another still counts
pub slab_len-with_value : (slab : Slab Entry) (place : ℕ) (e new : Entry) → get slab place ≡ Some e → slab_len (with_value slab place new) ≡ slab_len slab
slab_len-with_value slab place e new is =
    let within = ContainsKey-within slab place (ap is_some is) in
    let sum = sum_by-set (λ (o : Option Entry). cond (is_some o) 1 0) slab.slots place (Some new) None within in
    omega (arith, sum, ap count_if is)
  where
    count_if : Option Entry → ℕ
    count_if o = cond (is_some o) 1 0

module _ {most : ℕ} {slab : Slab Entry} {index : List Placed} {rows : List (Vec ℕ Global)} {m : ℕ} (places : HasPlaces most slab index rows m) where
  abbrev entries : List Entry
  entries = entries_of slab index

  -- ---- one more

  module _ (new : Slab Entry) (place a node : ℕ) (vacant : get slab place ≡ None) (updates : Updates slab new place (Some (entered a node))) (fits : place < new.capacity) (capacity : new.capacity ≡ slab.capacity)
      (absent : item_at placed_address a index ≡ None) where
    abbrev this : Placed
    this = record { address = a; place = place }

    elsewhere : (d : Placed) → Holds slab d → d.place ≢ place
    elsewhere d at same = none_some at.entry (sym vacant ∙ ap (get slab) (sym same) ∙ at.here)

    stays : (d : Placed) → Holds slab d → Holds new d
    stays d at = record {
      entry = at.entry;
      here = updates.others d.place (elsewhere d at) ∙ at.here;
      same = at.same;
      kept = at.kept;
      within = omega (arith, at.within, capacity);
    }

    holds_added : All (Holds new) (spec.added placed_address this index)
    holds_added = keyed.All-added placed_address (Holds new) this index (All-weaker (Holds slab) (Holds new) stays index places.holds)
        (record { entry = entered a node; here = updates.changed; same = refl; kept = first_kept node; within = fits })

    pub entries_added : entries_of new (spec.added placed_address this index) ≡ added (entered a node) entries
    entries_added = entries_are new (spec.added placed_address this index) holds_added (keyed.AscendFrom-added placed_address this 0 index places.ascending (omega arith))
        (added (entered a node) entries) (keyed.AscendFrom-added address_of (entered a node) 0 entries (entries_ascend slab 0 index places.holds places.ascending) (omega arith)) same
      where
        others : (b : ℕ) (o : Option Placed) → item_at placed_address b index ≡ o → entry_in new o ≡ entry_in slab o
        others b None is = refl
        others b (Some d) is = updates.others d.place (elsewhere d (held places b d is))

        go : (b : ℕ) (t : Bool) → entry_in new (if t then Some this else item_at placed_address b index) ≡ (if t then Some (entered a node) else entry_at b entries)
        go b true = updates.changed
        go b false = others b _ refl ∙ sym (entry_found places b)

        same : (b : ℕ) → entry_in new (item_at placed_address b (spec.added placed_address this index)) ≡ entry_at b (added (entered a node) entries)
        same b = ap (entry_in new) (keyed.item_at-added placed_address this index b) ∙ go b (a == b) ∙ sym (keyed.item_at-added address_of (entered a node) entries b)

    pub places_added : length index < most → slab_len new ≡ slab_len slab + 1 → HasPlaces most new (spec.added placed_address this index) rows m
    places_added room len = record {
      ascending = keyed.AscendFrom-added placed_address this 0 index places.ascending (omega arith);
      holds = holds_added;
      told = λ q e is. told q e is (cases_eq q place);
      count = omega (arith, places.count, len, keyed.length-added placed_address this 0 index places.ascending absent);
      bound = omega (arith, room, keyed.length-added placed_address this 0 index places.ascending absent);
      room = omega (arith, places.room, capacity);
      index_room = places.index_room;
      range = places.range;
      marked = λ kind q lt. places.marked kind q lt ∙ marked kind q (cases_eq q place);
      words = places.words;
      wide = places.wide;
      few = places.few;
      fits = omega (arith, places.fits, capacity);
      within = λ q lt. places.within q (omega (arith, lt, capacity));
    }
      where
        told : (q : ℕ) (e : Entry) → get new q ≡ Some e → (q ≡ place) ⊎ (q ≢ place) → item_at placed_address e.address (spec.added placed_address this index) ≡ Some (record { address = e.address; place = q })
        told q e is (inl same) =
            let mine : entered a node ≡ e = some_same (entered a node) e (sym updates.changed ∙ ap (get new) (sym same) ∙ is) in
            ap (λ (x : Entry). item_at placed_address x.address (spec.added placed_address this index)) (sym mine)
            ∙ here-added placed_address this index
            ∙ ap (λ (n : ℕ). Some (record { address = a; place = n })) (sym same)
            ∙ ap (λ (x : Entry). Some (record { address = x.address; place = q })) mine
        told q e is (inr other) = kept-added placed_address this e.address (record { address = e.address; place = q }) index absent (places.told q e (sym (updates.others q other) ∙ is))

        marked : (kind q : ℕ) → (q ≡ place) ⊎ (q ≢ place) → is_of_type kind (get slab q) ≡ is_of_type kind (get new q)
        marked kind q (inl same) = ap (is_of_type kind) (ap (get slab) same ∙ vacant) ∙ sym (no_type kind) ∙ sym (ap (is_of_type kind) (ap (get new) same ∙ updates.changed))
        marked kind q (inr other) = sym (ap (is_of_type kind) (updates.others q other))

  -- ---- a change of one that is there

  module _ (a : ℕ) (d : Placed) (found : item_at placed_address a index ≡ Some d) where
    abbrev pub at : Holds slab d
    at = held places a d found

    at_address : at.entry.address ≡ a
    at_address = at.same ∙ key_found placed_address a d index found

    -- one at another address has another place
    elsewhere_found : (x : Placed) → Holds slab x → x.address ≢ a → x.place ≢ d.place
    elsewhere_found x on other same =
        let equal_entries : on.entry ≡ at.entry = some_same on.entry at.entry (sym on.here ∙ ap (get slab) same ∙ at.here) in
        other (sym on.same ∙ ap (λ (e : Entry). e.address) equal_entries ∙ at_address)

    pub place_fits : d.place / 64 < places.words
    place_fits = places.within d.place at.within

    -- the rows with what stands at the place now
    marked_now : (new : Slab Entry) (slot : Option Entry) (types : TypeMap) (now : List (Vec ℕ Global)) → Updates slab new d.place slot → ((kind : ℕ) → has_type types kind ≡ is_of_type kind slot)
        → ((kind q : ℕ) → kind < 256 → has (row_of now kind) q ≡ (if d.place == q then has_type types kind else has (row_of rows kind) q))
        → (kind q : ℕ) → kind < 256 → has (row_of now kind) q ≡ is_of_type kind (get new q)
    marked_now new slot types now updates is bits kind q lt = bits kind q lt ∙ go (d.place == q) refl
      where
        go : (b : Bool) → d.place == q ≡ b → (if b then has_type types kind else has (row_of rows kind) q) ≡ is_of_type kind (get new q)
        go true same = is kind ∙ sym (ap (is_of_type kind) (ap (get new) (sym (equal d.place q same)) ∙ updates.changed))
        go false other = places.marked kind q lt ∙ sym (ap (is_of_type kind) (updates.others q (λ e. unequal d.place q other (sym e))))

    -- ---- it is taken out

    module _ (new : Slab Entry) (updates : Updates slab new d.place None) (capacity : new.capacity ≡ slab.capacity) where
      holds_without : All (Holds new) (spec.without placed_address a index)
      holds_without = All-passing (λ x. not (x.address == a)) (Holds new) index (All-weaker (Holds slab) (λ x. not (x.address == a) ≡ true → Holds new x) stays index places.holds)
        where
          other : (x : Placed) → not (x.address == a) ≡ true → x.address ≢ a
          other x e = grind (arith, nat_tests)

          stays : (x : Placed) → Holds slab x → not (x.address == a) ≡ true → Holds new x
          stays x on passes = record {
            entry = on.entry;
            here = updates.others x.place (elsewhere_found x on (other x passes)) ∙ on.here;
            same = on.same;
            kept = on.kept;
            within = omega (arith, on.within, capacity);
          }

      pub entries_without : entries_of new (spec.without placed_address a index) ≡ without a entries
      entries_without = entries_are new (spec.without placed_address a index) holds_without (keyed.AscendFrom-filter placed_address _ 0 index places.ascending)
          (without a entries) (keyed.AscendFrom-filter address_of _ 0 entries (entries_ascend slab 0 index places.holds places.ascending)) same
        where
          others : (b : ℕ) → a ≢ b → (o : Option Placed) → item_at placed_address b index ≡ o → entry_in new o ≡ entry_in slab o
          others b ne None is = refl
          others b ne (Some x) is = updates.others x.place (elsewhere_found x (held places b x is) (λ e. ne (sym e ∙ key_found placed_address b x index is)))

          go : (b : ℕ) (t : Bool) → a == b ≡ t → entry_in new (if t then None else item_at placed_address b index) ≡ (if t then None else entry_at b entries)
          go b true e = refl
          go b false e = others b (unequal a b e) _ refl ∙ sym (entry_found places b)

          same : (b : ℕ) → entry_in new (item_at placed_address b (spec.without placed_address a index)) ≡ entry_at b (without a entries)
          same b = ap (entry_in new) (keyed.item_at-without placed_address a b index) ∙ go b (a == b) refl ∙ sym (keyed.item_at-without address_of a b entries)

      pub places_without : (now : List (Vec ℕ Global)) → slab_len new + 1 ≡ slab_len slab → AreWide places.words now
          → ((kind q : ℕ) → kind < 256 → has (row_of now kind) q ≡ (if d.place == q then has_type NO_TYPES kind else has (row_of rows kind) q)) → HasPlaces most new (spec.without placed_address a index) now m
      places_without now len wide bits = record {
        ascending = keyed.AscendFrom-filter placed_address _ 0 index places.ascending;
        holds = holds_without;
        told = told;
        count = omega (arith, places.count, len, length-gone placed_address a d index places.ascending found);
        bound = omega (arith, places.bound, length-gone placed_address a d index places.ascending found);
        room = omega (arith, places.room, capacity);
        index_room = places.index_room;
        range = places.range;
        marked = marked_now new None NO_TYPES now updates no_type bits;
        words = places.words;
        wide = wide;
        few = places.few;
        fits = omega (arith, places.fits, capacity);
        within = λ q lt. places.within q (omega (arith, lt, capacity));
      }
        where
          told : (q : ℕ) (e : Entry) → get new q ≡ Some e → item_at placed_address e.address (spec.without placed_address a index) ≡ Some (record { address = e.address; place = q })
          told q e is = kept-without placed_address a e.address index (λ same. apart (ap (λ (x : Placed). x.place) (
              some_same d (record { address = e.address; place = q }) (sym found ∙ ap (λ n. item_at placed_address n index) same ∙ before)))) ∙ before
            where
              apart : d.place ≢ q
              apart same = none_some e (sym updates.changed ∙ ap (get new) same ∙ is)

              before : item_at placed_address e.address index ≡ Some (record { address = e.address; place = q })
              before = places.told q e (sym (updates.others q (λ s. apart (sym s))) ∙ is)

    -- ---- it is changed

    module _ (change : Entry → Entry) (keeps : (e : Entry) → (change e).address ≡ e.address) (new : Slab Entry) (updates : Updates slab new d.place (Some (change at.entry))) (capacity : new.capacity ≡ slab.capacity)
        (kept : IsKept (change at.entry).values) where
      holds_changed : All (Holds new) index
      holds_changed = All-weaker (Holds slab) (Holds new) (λ x on. stays x on (cases_eq x.place d.place)) index places.holds
        where
          stays : (x : Placed) → Holds slab x → (x.place ≡ d.place) ⊎ (x.place ≢ d.place) → Holds new x
          stays x on (inl same) = record {
            entry = change at.entry;
            here = ap (get new) same ∙ updates.changed;
            same = keeps at.entry ∙ sym (ap (λ (e : Entry). e.address) (some_same on.entry at.entry (sym on.here ∙ ap (get slab) same ∙ at.here))) ∙ on.same;
            kept = kept;
            within = omega (arith, on.within, capacity);
          }
          stays x on (inr other) = record {
            entry = on.entry;
            here = updates.others x.place other ∙ on.here;
            same = on.same;
            kept = on.kept;
            within = omega (arith, on.within, capacity);
          }

      abbrev at_key : Option Entry → Option Entry
      at_key o = option_map (changed_if address_of a change) o

      pub entries_changed : entries_of new index ≡ spec.changed address_of a change entries
      entries_changed = entries_are new index holds_changed places.ascending (spec.changed address_of a change entries)
          (keyed.AscendFrom-changed address_of change keeps a 0 entries (entries_ascend slab 0 index places.holds places.ascending)) same
        where
          here : (e : Entry) → e.address ≡ a → changed_if address_of a change e ≡ change e
          here e is = ap (λ b. if b then change e else e) (let t : e.address == a ≡ true = grind (arith, nat_tests) in t)

          there : (e : Entry) → e.address ≢ a → changed_if address_of a change e ≡ e
          there e ne = ap (λ b. if b then change e else e) (differs e.address a ne)

          by : (b : ℕ) (x : Placed) → item_at placed_address b index ≡ Some x → (b ≡ a) ⊎ (b ≢ a) → get new x.place ≡ at_key (get slab x.place)
          by b x is (inl same) =
              let mine : x ≡ d = some_same x d (sym is ∙ ap (λ n. item_at placed_address n index) same ∙ found) in
              ap (λ (z : Placed). get new z.place) mine ∙ updates.changed ∙ ap Some (sym (here at.entry at_address)) ∙ ap at_key (sym at.here) ∙ ap (λ (z : Placed). at_key (get slab z.place)) (sym mine)
          by b x is (inr other) =
              let on = held places b x is in
              let address : x.address ≡ b = key_found placed_address b x index is in
              updates.others x.place (elsewhere_found x on (λ e. other (sym address ∙ e)))
              ∙ on.here ∙ ap Some (sym (there on.entry (λ e. other (sym address ∙ sym on.same ∙ e)))) ∙ ap at_key (sym on.here)

          go : (b : ℕ) (o : Option Placed) → item_at placed_address b index ≡ o → entry_in new o ≡ at_key (entry_in slab o)
          go b None is = refl
          go b (Some x) is = by b x is (cases_eq b a)

          same : (b : ℕ) → entry_in new (item_at placed_address b index) ≡ entry_at b (spec.changed address_of a change entries)
          same b = go b _ refl ∙ ap at_key (sym (entry_found places b)) ∙ sym (keyed.item_at-changed address_of change keeps a b entries)

      pub places_changed : (now : List (Vec ℕ Global)) (types : TypeMap) → slab_len new ≡ slab_len slab → AreWide places.words now → types ≡ (change at.entry).values.types
          → ((kind q : ℕ) → kind < 256 → has (row_of now kind) q ≡ (if d.place == q then has_type types kind else has (row_of rows kind) q)) → HasPlaces most new index now m
      places_changed now types len wide is bits = record {
        ascending = places.ascending;
        holds = holds_changed;
        told = λ q e is. told q e is (cases_eq q d.place);
        count = omega (arith, places.count, len);
        bound = places.bound;
        room = omega (arith, places.room, capacity);
        index_room = places.index_room;
        range = places.range;
        marked = marked_now new (Some (change at.entry)) types now updates (λ kind. ap (λ t. has_type t kind) is) bits;
        words = places.words;
        wide = wide;
        few = places.few;
        fits = omega (arith, places.fits, capacity);
        within = λ q lt. places.within q (omega (arith, lt, capacity));
      }
        where
          told : (q : ℕ) (e : Entry) → get new q ≡ Some e → (q ≡ d.place) ⊎ (q ≢ d.place) → item_at placed_address e.address index ≡ Some (record { address = e.address; place = q })
          told q e is (inl same) =
              let mine : change at.entry ≡ e = some_same (change at.entry) e (sym updates.changed ∙ ap (get new) (sym same) ∙ is) in
              let address : at.entry.address ≡ e.address = sym (keeps at.entry) ∙ ap (λ (x : Entry). x.address) mine in
              ap (λ n. item_at placed_address n index) (sym address) ∙ places.told d.place at.entry at.here
              ∙ ap (λ (n : ℕ). Some (record { address = n; place = d.place })) address ∙ ap (λ (n : ℕ). Some (record { address = e.address; place = n })) (sym same)
          told q e is (inr other) = places.told q e (sym (updates.others q other) ∙ is)
