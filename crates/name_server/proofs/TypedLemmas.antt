-- Which of the seen N_Ports have a type, as the places of that type are gone through.
use Rattle.std.proofs.Common.{◌≡◌, ◌≢◌, ℕ, ◌+◌, ◌*◌, ◌/◌, ◌<◌, ◌≤◌, ◌==◌, ◌&&◌, ◌||◌, ◌⊎◌, inl, inr, nat_lt, Bool, true, false, List, length, Option, Some, None, Vec, refl, sym, ◌∙◌, ap, arith}
use mathlib.Core.Bool.{false≢true}
use Rattle.std.specs.declared.alloc.Global.{Global}
use Rattle.std.proofs.lemmas.Bool.{cases_lt, cases_order}
use Rattle.std.proofs.lemmas.Bool.Decides.{nat_tests}
use Rattle.slab.specs.Slab.{Slab, get}
use Rattle.fab_base.specs.Keyed.{item_at}
use Rattle.sorted_lists.specs.Row.{has, IsNextBit}
use Rattle.sorted_lists.proofs.RowLemmas.{has-past}
use Rattle.sorted_lists.proofs.IndexLemmas.{key_found, some_same}
use Rattle.name_server.specs.Registry.{Entry, entry_at}
use Rattle.name_server.specs.Places.{placed_address, entries_of, row_of, is_of_type, HasPlaces}
use Rattle.name_server.specs.Views.{is_at, seen_of_type}
use Rattle.name_server.specs.declared.placed.Placed.{Placed}
use Rattle.name_server.specs.declared.seen.SeenPort.{SeenPort}
use Rattle.name_server.proofs.PlaceLemmas.{entry_in, entry_found, held}

-- the place of a seen N_Port
abbrev pub seen_place : List Placed → Option SeenPort → Option Placed
seen_place index None = None
seen_place index (Some s) = item_at placed_address s.address index

-- a place that has the type, below a bound
abbrev pub is_before : List (Vec ℕ Global) → ℕ → ℕ → Option Placed → Bool
is_before rows kind from None = false
is_before rows kind from (Some d) = nat_lt d.place from && has (row_of rows kind) d.place

pub before_first : (rows : List (Vec ℕ Global)) (kind : ℕ) (o : Option Placed) → is_before rows kind 0 o ≡ false
before_first rows kind None = refl
before_first rows kind (Some d) = ap (λ b. b && has (row_of rows kind) d.place) (let t : nat_lt d.place 0 ≡ false = grind (arith, nat_tests) in t)

-- a bit stands in one of the words
pub within_row : (row : List ℕ) (q : ℕ) → has row q ≡ true → q < 64 * length row
within_row row q bit = go (cases_lt (q / 64) (length row))
  where
    go : (q / 64 < length row) ⊎ (length row ≤ q / 64) → q < 64 * length row
    go (inl lt) = omega (arith, lt)
    go (inr ge) = absurd (false≢true (sym (has-past row q ge) ∙ bit))

below : (m n : ℕ) → m < n → nat_lt m n ≡ true
below m n lt = grind (arith, nat_tests)

not_below : (m n : ℕ) → n ≤ m → nat_lt m n ≡ false
not_below m n le = grind (arith, nat_tests)

module _ {most : ℕ} {slab : Slab Entry} {index : List Placed} {rows : List (Vec ℕ Global)} {m : ℕ} (places : HasPlaces most slab index rows m) (kind from : ℕ) where
  -- one more place
  module _ (place : ℕ) (e : Entry) (here : get slab place ≡ Some e) (next : IsNextBit (row_of rows kind) from (Some place)) where
    other : (d : Placed) → d.place ≢ place → (nat_lt d.place (place + 1) && has (row_of rows kind) d.place) ≡ (nat_lt d.place from && has (row_of rows kind) d.place)
    other d ne = go (cases_lt d.place from) (cases_order d.place place)
      where
        go : (d.place < from) ⊎ (from ≤ d.place) → (d.place ≡ place) ⊎ ((d.place < place) ⊎ (place < d.place))
            → (nat_lt d.place (place + 1) && has (row_of rows kind) d.place) ≡ (nat_lt d.place from && has (row_of rows kind) d.place)
        go (inl lt) which = ap (λ b. b && has (row_of rows kind) d.place) (below d.place (place + 1) (omega (arith, lt, next.0)) ∙ sym (below d.place from lt))
        go (inr ge) (inl same) = absurd (ne same)
        go (inr ge) (inr (inl less)) =
            ap (λ b. nat_lt d.place (place + 1) && b) (next.2 d.place ge less)
            ∙ ap (λ b. b && false) (below d.place (place + 1) (omega (arith, less)))
            ∙ sym (ap (λ b. b && has (row_of rows kind) d.place) (not_below d.place from ge))
        go (inr ge) (inr (inr more)) = ap (λ b. b && has (row_of rows kind) d.place) (not_below d.place (place + 1) (omega (arith, more)) ∙ sym (not_below d.place from ge))

    pub before_more : (o : Option SeenPort) → is_before rows kind (place + 1) (seen_place index o) ≡ (is_at e.address o || is_before rows kind from (seen_place index o))
    before_more None = refl
    before_more (Some s) = by (s.address == e.address) refl
      where
        mine : s.address ≡ e.address → is_before rows kind (place + 1) (item_at placed_address s.address index) ≡ true
        mine same =
            ap (is_before rows kind (place + 1)) (ap (λ n. item_at placed_address n index) same ∙ places.told place e here)
            ∙ ap (λ b. b && has (row_of rows kind) place) (below place (place + 1) (omega arith))
            ∙ next.1

        others : s.address ≢ e.address → (o : Option Placed) → item_at placed_address s.address index ≡ o → is_before rows kind (place + 1) o ≡ is_before rows kind from o
        others ne None is = refl
        others ne (Some d) is =
            let on = held places s.address d is in
            other d (λ same. ne (sym (key_found placed_address s.address d index is) ∙ sym on.same ∙ ap (λ (x : Entry). x.address) (some_same on.entry e (sym on.here ∙ ap (get slab) same ∙ here))))

        by : (b : Bool) → (s.address == e.address) ≡ b → is_before rows kind (place + 1) (item_at placed_address s.address index) ≡ ((s.address == e.address) || is_before rows kind from (item_at placed_address s.address index))
        by true t = mine (let same : s.address ≡ e.address = grind (arith, nat_tests) in same) ∙ sym (ap (λ b. b || is_before rows kind from (item_at placed_address s.address index)) t)
        by false t =
            others (let ne : s.address ≢ e.address = grind (arith, nat_tests) in ne) (item_at placed_address s.address index) refl
            ∙ sym (ap (λ b. b || is_before rows kind from (item_at placed_address s.address index)) t)

  -- and no place is left
  pub before_all : kind < 256 → IsNextBit (row_of rows kind) from None → (o : Option SeenPort) → is_before rows kind from (seen_place index o) ≡ seen_of_type kind (entries_of slab index) o
  before_all lt none None = refl
  before_all lt none (Some s) = go (item_at placed_address s.address index) refl
    where
      all : (d : Placed) → (d.place < from) ⊎ (from ≤ d.place) → (nat_lt d.place from && has (row_of rows kind) d.place) ≡ has (row_of rows kind) d.place
      all d (inl less) = ap (λ b. b && has (row_of rows kind) d.place) (below d.place from less)
      all d (inr ge) = ap (λ b. b && has (row_of rows kind) d.place) (not_below d.place from ge) ∙ sym (none d.place ge)

      go : (o : Option Placed) → item_at placed_address s.address index ≡ o → is_before rows kind from (item_at placed_address s.address index) ≡ is_of_type kind (entry_at s.address (entries_of slab index))
      go None is = ap (is_before rows kind from) is ∙ sym (ap (is_of_type kind) (entry_found places s.address ∙ ap (entry_in slab) is))
      go (Some d) is =
          ap (is_before rows kind from) is ∙ all d (cases_lt d.place from) ∙ places.marked kind d.place lt
          ∙ sym (ap (is_of_type kind) (entry_found places s.address ∙ ap (entry_in slab) is))
