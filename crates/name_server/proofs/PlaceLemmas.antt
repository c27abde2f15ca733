-- What is found of the entries by their places.
use Rattle.std.proofs.Common.{◌≡◌, ℕ, ◌+◌, ◌==◌, Bool, true, false, cond, List, [], ◌∷◌, length, Option, Some, None, Vec, option_map, refl, sym, ◌∙◌, ap, subst, arith}
use Rattle.std.specs.List.{All}
use Rattle.std.specs.declared.alloc.Global.{Global}
use Rattle.std.proofs.lemmas.List.Elements.{All-cons, All-head, All-tail}
use Rattle.slab.specs.Slab.{Slab, get}
use Rattle.fab_base.specs.Keyed.{AscendFrom, item_at}
use Rattle.fab_base.proofs.KeyedLemmas as keyed
use Rattle.sorted_lists.proofs.IndexLemmas.{All-found, key_found, none_some, some_same}
use Rattle.name_server.specs.Registry.{Entry, IsKept, IsSound, address_of, entry_at}
use Rattle.name_server.specs.Places.{placed_address, entries_of, Holds, HasPlaces}
use Rattle.name_server.specs.declared.placed.Placed.{Placed}

-- the entry at a place, where there is one
abbrev pub entry_in : Slab Entry → Option Placed → Option Entry
entry_in slab None = None
entry_in slab (Some d) = get slab d.place

module _ (slab : Slab Entry) where
  -- an address finds the entry at its place
  pub entries_found : (index : List Placed) → All (Holds slab) index → (a : ℕ) → entry_at a (entries_of slab index) ≡ entry_in slab (item_at placed_address a index)
  entries_found [] holds a = refl
  entries_found (d ∷ ds) holds a =
      let first = All-head (Holds slab) d ds holds in
      rw first.here (go first.entry first.here first.same (d.address == a) refl (entries_found ds (All-tail (Holds slab) d ds holds) a))
    where
      go : (e : Entry) → get slab d.place ≡ Some e → e.address ≡ d.address → (b : Bool) → d.address == a ≡ b → entry_at a (entries_of slab ds) ≡ entry_in slab (item_at placed_address a ds) →
          cond (e.address == a) (Some e) (entry_at a (entries_of slab ds)) ≡ entry_in slab (cond (d.address == a) (Some d) (item_at placed_address a ds))
      go e here same true this others =
          ap (λ b. cond b (Some e) (entry_at a (entries_of slab ds))) (ap (λ n. n == a) same ∙ this)
          ∙ sym here
          ∙ sym (ap (λ b. entry_in slab (cond b (Some d) (item_at placed_address a ds))) this)
      go e here same false other others =
          ap (λ b. cond b (Some e) (entry_at a (entries_of slab ds))) (ap (λ n. n == a) same ∙ other)
          ∙ others
          ∙ sym (ap (λ b. entry_in slab (cond b (Some d) (item_at placed_address a ds))) other)

  pub entries_ascend : (k : ℕ) (index : List Placed) → All (Holds slab) index → AscendFrom placed_address k index → AscendFrom address_of k (entries_of slab index)
  entries_ascend k [] holds ascend = tt
  entries_ascend k (d ∷ ds) holds ascend =
      let first = All-head (Holds slab) d ds holds in
      let rest = entries_ascend (d.address + 1) ds (All-tail (Holds slab) d ds holds) ascend.1 in
      rw first.here (omega (arith, ascend.0, first.same), subst (λ n. AscendFrom address_of (n + 1) (entries_of slab ds)) (sym first.same) rest)

  entries_kept : (index : List Placed) → All (Holds slab) index → All (λ e. IsKept e.values) (entries_of slab index)
  entries_kept [] holds = λ i d lt. absurd (omega (arith, lt))
  entries_kept (d ∷ ds) holds =
      let first = All-head (Holds slab) d ds holds in
      rw first.here (All-cons (λ (x : Entry). IsKept x.values) first.entry (entries_of slab ds) first.kept (entries_kept ds (All-tail (Holds slab) d ds holds)))

  entries_length : (index : List Placed) → All (Holds slab) index → length (entries_of slab index) ≡ length index
  entries_length [] holds = refl
  entries_length (d ∷ ds) holds = rw (All-head (Holds slab) d ds holds).here (omega (arith, entries_length ds (All-tail (Holds slab) d ds holds)))

  -- the entries are those that each address finds
  pub entries_are : (index : List Placed) → All (Holds slab) index → AscendFrom placed_address 0 index → (ys : List Entry) → AscendFrom address_of 0 ys
      → ((a : ℕ) → entry_in slab (item_at placed_address a index) ≡ entry_at a ys) → entries_of slab index ≡ ys
  entries_are index holds ascend ys ascends same = keyed.equal_by_items address_of 0 (entries_of slab index) ys (entries_ascend 0 index holds ascend) ascends (λ a. entries_found index holds a ∙ same a)

-- the entry of one that was found
pub found_entry : (slab : Slab Entry) (o : Option Placed) (r : Option ℕ) (place : ℕ) → r ≡ option_map (λ (d : Placed). d.place) o → r ≡ Some place → entry_in slab o ≡ get slab place
found_entry slab None r place is some = absurd (none_some place (sym is ∙ some))
found_entry slab (Some d) r place is some = ap (get slab) (some_same d.place place (sym is ∙ some))

pub found_none : (slab : Slab Entry) (o : Option Placed) (r : Option ℕ) → r ≡ option_map (λ (d : Placed). d.place) o → r ≡ None → entry_in slab o ≡ None
found_none slab None r is none = refl
found_none slab (Some d) r is none = absurd (none_some d.place (sym none ∙ is))

module _ {most : ℕ} {slab : Slab Entry} {index : List Placed} {rows : List (Vec ℕ Global)} {m : ℕ} (has : HasPlaces most slab index rows m) where
  pub sound_places : IsSound (record { room = most; entries = entries_of slab index })
  sound_places = record {
    ascending = entries_ascend slab 0 index has.holds has.ascending;
    kept = entries_kept slab index has.holds;
    bound = omega (arith, has.bound, entries_length slab index has.holds);
  }

  pub length_places : length (entries_of slab index) ≡ length index
  length_places = entries_length slab index has.holds

  pub entry_found : (a : ℕ) → entry_at a (entries_of slab index) ≡ entry_in slab (item_at placed_address a index)
  entry_found a = entries_found slab index has.holds a

  pub held : (a : ℕ) (d : Placed) → item_at placed_address a index ≡ Some d → Holds slab d
  held a d found = All-found (Holds slab) (λ x. x.address == a) index d has.holds found

  -- the place of an address that a search found, and the search that found none
  pub place_is : (a : ℕ) (seen : List Placed) (r : Option ℕ) (place : ℕ) → r ≡ option_map (λ (d : Placed). d.place) (item_at placed_address a seen) → seen ≡ index → r ≡ Some place
      → item_at placed_address a index ≡ Some (record { address = a; place = place })
  place_is a seen r place is same some = go (item_at placed_address a index) refl (is ∙ ap (λ l. option_map (λ (d : Placed). d.place) (item_at placed_address a l)) same)
    where
      go : (o : Option Placed) → item_at placed_address a index ≡ o → r ≡ option_map (λ (d : Placed). d.place) o → o ≡ Some (record { address = a; place = place })
      go None e f = absurd (none_some place (sym f ∙ some))
      go (Some d) e f =
          ap (λ (n : ℕ). Some (record { address = n; place = d.place })) (key_found placed_address a d index e)
          ∙ ap (λ (n : ℕ). Some (record { address = a; place = n })) (some_same d.place place (sym f ∙ some))

  pub place_none : (a : ℕ) (seen : List Placed) (r : Option ℕ) → r ≡ option_map (λ (d : Placed). d.place) (item_at placed_address a seen) → seen ≡ index → r ≡ None → entry_at a (entries_of slab index) ≡ None
  place_none a seen r is same none = entry_found a ∙ found_none slab _ r (is ∙ ap (λ l. option_map (λ (d : Placed). d.place) (item_at placed_address a l)) same) none

  pub absent_place : (a : ℕ) → entry_at a (entries_of slab index) ≡ None → item_at placed_address a index ≡ None
  absent_place a none = go (item_at placed_address a index) refl
    where
      go : (o : Option Placed) → item_at placed_address a index ≡ o → o ≡ None
      go None is = refl
      go (Some d) is =
          let at = held a d is in
          absurd (none_some at.entry (sym none ∙ entry_found a ∙ ap (entry_in slab) is ∙ at.here))
