-- A name more in a depot in memory, and a file that is stored.
use Rattle.std.proofs.Common.{◌≡◌, ◌≢◌, ℕ, zero, suc, ◌+◌, ◌<◌, List, [], ◌∷◌, ◌++◌, length, slice_get, slice_index, set, Option, Some, None, Bool, true, false, cond, IsTrue, is_some, refl, sym, ◌∙◌, ap, subst, arith, String, Vec, string_bytes, inl, inr, drop}
use Rattle.std.proofs.lemmas.Bool.{cases_Bool}
use Rattle.std.proofs.lemmas.Slice.Eq.{bytes_eq-Decides}
use Rattle.std.specs.Str.{bytes_eq}
use Rattle.std.specs.declared.alloc.Global.{Global}
use Rattle.fab_base.specs.declared.desk.Desk.{Desk}
use Rattle.fab_base.specs.Seen.{Seen, SameSlot, Keeps, bytes_of}
use Rattle.fab_base.specs.Places.{place, name_at, after_one, slot_file, slot_at, is_input, is_output}
use Rattle.fab_base.specs.Contents.{content_at, content_in}
use Rattle.fab_base.specs.Desk.{place_of, count_at, Adds, KeepsAll}
use Rattle.fab_base.specs.MemDepot.{seen_of, seen_by, left_by, Learns}
use Rattle.fab_base.proofs.PlaceLemmas.{name_at-append, placed_within}
use Rattle.fab_base.proofs.MemLemmas.{mem_keeps, stays_same, open_within, content_at-set_other, content_at-set_same}

-- a name that differs is another text
differs : (x n : List ℕ) → x ≢ n → bytes_eq x n ≡ false
differs x n ne = elim (cases_Bool (bytes_eq x n)) [ inl same ↦ absurd (ne ((bytes_eq-Decides x n).0 same)) | inr other ↦ other ]

place_tail : (n : List ℕ) (y : String Global) (xs : List (String Global)) (b : Bool) → bytes_eq (string_bytes y) n ≡ b → place n (y ∷ xs) ≡ cond b (Some 0) (after_one (place n xs))
place_tail n y xs b e = ap (λ b. cond b (Some 0) (after_one (place n xs))) e

none_tail : (o : Option ℕ) → after_one o ≡ None → o ≡ None
none_tail None e = refl
none_tail (Some i) e = absurd (cc)

-- a name that was not known stands behind the others
pub place-push_own : (n : List ℕ) (xs : List (String Global)) (x : String Global) → string_bytes x ≡ n → place n xs ≡ None → place n (xs ++ x ∷ []) ≡ Some (length xs)
place-push_own n [] x is none = place_tail n x [] true ((bytes_eq-Decides (string_bytes x) n).1 is)
place-push_own n (y ∷ xs) x is none = elim (cases_Bool (bytes_eq (string_bytes y) n)) [
  | inl same ↦ let e : Some 0 ≡ None = sym (place_tail n y xs true same) ∙ none in absurd (cc)
  | inr other ↦
      let rest : place n xs ≡ None = none_tail (place n xs) (sym (place_tail n y xs false other) ∙ none) in
      place_tail n y (xs ++ x ∷ []) false other ∙ ap after_one (place-push_own n xs x is rest) ∙ ap Some (let e : length xs + 1 ≡ suc (length xs) = omega arith in e)
]

-- and no other name moves
pub place-push_other : (m n : List ℕ) (xs : List (String Global)) (x : String Global) → string_bytes x ≡ n → m ≢ n → place m (xs ++ x ∷ []) ≡ place m xs
place-push_other m n [] x is ne = place_tail m x [] false (differs (string_bytes x) m (λ e. ne (sym e ∙ is)))
place-push_other m n (y ∷ xs) x is ne = elim (cases_Bool (bytes_eq (string_bytes y) m)) [
  | inl same ↦ place_tail m y (xs ++ x ∷ []) true same ∙ sym (place_tail m y xs true same)
  | inr other ↦ place_tail m y (xs ++ x ∷ []) false other ∙ ap after_one (place-push_other m n xs x is ne) ∙ sym (place_tail m y xs false other)
]

-- one more 0 changes no count
pub index-push_zero : (xs : List ℕ) (i : ℕ) → slice_index (xs ++ 0 ∷ []) i ≡ slice_index xs i
index-push_zero [] zero = refl
index-push_zero [] (suc i) = refl
index-push_zero (x ∷ xs) zero = refl
index-push_zero (x ∷ xs) (suc i) = index-push_zero xs i

pub index_past : (xs : List ℕ) → slice_index xs (length xs) ≡ 0
index_past [] = refl
index_past (x ∷ xs) = index_past xs

-- and one more content that isn't there no content
pub content-push_none : (xs : List (Option (Vec ℕ Global))) (i : ℕ) → content_at (xs ++ None ∷ []) i ≡ content_at xs i
content-push_none [] zero = refl
content-push_none [] (suc i) = refl
content-push_none (x ∷ xs) zero = refl
content-push_none (x ∷ xs) (suc i) = content-push_none xs i

pub content_past : (xs : List (Option (Vec ℕ Global))) → content_at xs (length xs) ≡ None
content_past [] = refl
content_past (x ∷ xs) = content_past xs

module _ (n : List ℕ) (old new : Desk) (was now : List (Option (Vec ℕ Global))) (unknown : place_of old n ≡ None) (adds : Adds n old new) (grown : now ≡ was ++ None ∷ []) (paired : length was ≡ length old.names.items) where
  pub own_place : place_of new n ≡ Some (length was)
  own_place = ap (place n) adds.names ∙ place-push_own n old.names.items adds.text adds.says unknown ∙ ap Some (sym paired)

  other_place : (m : List ℕ) → m ≢ n → place_of new m ≡ place_of old m
  other_place m ne = ap (place m) adds.names ∙ place-push_other m n old.names.items adds.text adds.says ne

  contents_are : (i : ℕ) → content_at now i ≡ content_at was i
  contents_are i = ap (λ l. content_at l i) grown ∙ content-push_none was i

  contents_in : (o : Option ℕ) → content_in now o ≡ content_in was o
  contents_in None = refl
  contents_in (Some i) = contents_are i

  counts_in : (xs ys : List ℕ) (o : Option ℕ) → ys ≡ xs ++ 0 ∷ [] → count_at ys o ≡ count_at xs o
  counts_in xs ys None e = refl
  counts_in xs ys (Some i) e = ap (λ l. slice_index l i) e ∙ index-push_zero xs i

  pub own_file : (seen_of new now).file n ≡ (seen_of old was).file n
  own_file = ap (content_in now) own_place ∙ contents_are (length was) ∙ content_past was ∙ sym (ap (content_in was) unknown)

  own_count : (xs ys : List ℕ) → length xs ≡ length old.names.items → ys ≡ xs ++ 0 ∷ [] → count_at ys (place_of new n) ≡ count_at xs (place_of old n)
  own_count xs ys same e =
      ap (count_at ys) own_place ∙ ap (λ l. slice_index l (length was)) e ∙ index-push_zero xs (length was)
      ∙ ap (slice_index xs) (paired ∙ sym same) ∙ index_past xs ∙ sym (ap (count_at xs) unknown)

  other_count : (xs ys : List ℕ) (m : List ℕ) → m ≢ n → ys ≡ xs ++ 0 ∷ [] → count_at ys (place_of new m) ≡ count_at xs (place_of old m)
  other_count xs ys m ne e = ap (count_at ys) (other_place m ne) ∙ counts_in xs ys (place_of old m) e

  any_count : (xs ys : List ℕ) (m : List ℕ) → length xs ≡ length old.names.items → ys ≡ xs ++ 0 ∷ [] → count_at ys (place_of new m) ≡ count_at xs (place_of old m)
  any_count xs ys m same e = elim (cases_Bool (bytes_eq m n)) [
    | inl is ↦ let is_n : m ≡ n = (bytes_eq-Decides m n).0 is in subst (λ k. count_at ys (place_of new k) ≡ count_at xs (place_of old k)) (sym is_n) (own_count xs ys same e)
    | inr other ↦ other_count xs ys m (λ is. absurd (let t : bytes_eq m n ≡ true = (bytes_eq-Decides m n).1 is in let f : true ≡ false = sym t ∙ other in cc)) e
  ]

  pub added_learns : Learns n (seen_of old was) (seen_of new now)
  added_learns = record {
    told = refl;
    known = ap is_some own_place;
    others = λ m ne. ap is_some (other_place m ne);
    slots = λ s h.
        let lt = open_within old.slots.items s h in
        let at : slice_get new.slots.items s ≡ slice_get old.slots.items s = ap (λ l. slice_get l s) adds.slots in
        record {
          input = ap is_input at;
          output = ap is_output at;
          name = ap (λ o. name_at new.names.items (slot_file o)) at ∙ ap (λ l. name_at l (slot_file (slice_get old.slots.items s))) adds.names
              ∙ name_at-append old.names.items (adds.text ∷ []) (slot_file (slice_get old.slots.items s)) (placed_within old.names.items old.slots.items s old.placed lt);
        };
    files = λ m ne. ap (content_in now) (other_place m ne) ∙ contents_in (place_of old m);
    left = λ s h ne.
        ap (λ l. left_by l now s) adds.slots
        ∙ ap (λ c. drop (slot_at (slice_get old.slots.items s)) (bytes_of c)) (contents_are (slot_file (slice_get old.slots.items s)));
    reads = λ m. any_count old.reads.items new.reads.items m old.reads_paired adds.reads;
    writes = λ m. any_count old.writes.items new.writes.items m old.writes_paired adds.writes;
  }

-- a name that is known already
pub learns_known : (n : List ℕ) (d : Seen) → IsTrue (d.knows n) → Learns n d d
learns_known n d known = record {
  told = refl;
  known = known;
  others = λ m ne. refl;
  slots = λ s h. record { input = refl; output = refl; name = refl };
  files = λ m ne. refl;
  left = λ s h ne. refl;
  reads = λ m. refl;
  writes = λ m. refl;
}

open_again : (s : ℕ) (a b : Seen) → SameSlot s a b → IsTrue (a.input s) → IsTrue (b.input s)
open_again s a b k h = subst IsTrue (sym k.input) h

-- a content stored at the place of a name
module _ (n : List ℕ) (a : Seen) (d : Desk) (was : List (Option (Vec ℕ Global))) (i : ℕ) (v : Vec ℕ Global) (at : place_of d n ≡ Some i) (learns : Learns n a (seen_of d was)) (lt : i < length was) where
  keeps : Keeps n (seen_of d was) (seen_of d (set was i (Some v)))
  keeps = mem_keeps n i d d was (set was i (Some v)) at (stays_same i d d refl) (λ j ne. content_at-set_other was i j (Some v) ne)

  pub stored_learns : Learns n a (seen_of d (set was i (Some v)))
  stored_learns = record {
    told = learns.told;
    known = learns.known;
    others = learns.others;
    slots = λ s h. let k = learns.slots s h in record { input = k.input; output = k.output; name = k.name };
    files = λ m ne. keeps.files m ne ∙ learns.files m ne;
    left = λ s h ne. keeps.left s (open_again s a (seen_of d was) (learns.slots s (inl h)) h) (λ e. ne (sym (learns.slots s (inl h)).name ∙ e)) ∙ learns.left s h ne;
    reads = learns.reads;
    writes = learns.writes;
  }

  pub stored_file : (seen_of d (set was i (Some v))).file n ≡ Some v.items
  stored_file = ap (content_in (set was i (Some v))) at ∙ content_at-set_same was i (Some v) lt

-- desks and contents of the same items are seen alike
pub same_seen : (old new : Desk) (was now : List (Option (Vec ℕ Global))) → KeepsAll old new → now ≡ was → seen_of new now ≡ seen_of old was
same_seen old new was now k e = λ i. seen_by (k.names i) (k.reads i) (k.writes i) (k.slots i) (e i)
