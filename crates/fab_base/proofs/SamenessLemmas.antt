-- What is found in lists of items, by a test or by a test of sameness on their keys, also where items are left out, inserted or changed.
use Rattle.std.proofs.Common.{◌≡◌, ℕ, suc, zero, ◌+◌, ◌<◌, ◌≤◌, ◌==◌, ◌&&◌, ◌||◌, Bool, true, false, not, cond, if◌then◌else◌, List, [], ◌∷◌, length, get_or, filter, find, map, position, Option, Some, None, option_map, unwrap_or, is_some, slice_get, nat_lt, refl, sym, ◌∙◌, ap, subst, arith}
use mathlib.Core.Bool.{false≢true}
use Rattle.std.specs.List.{list_any, position_or_len, insert, remove}
use Rattle.std.proofs.lemmas.Bool.Decides.{nat_tests}
use Rattle.std.proofs.lemmas.List.Folds.{find_at}
use Rattle.std.proofs.lemmas.List.Sums.{prefix_len-le-length}
use Rattle.std.proofs.lemmas.Option.{slice_get_past, slice_get-get_or}
use Rattle.fab_base.specs.Keyed.{item_of, all_but, KeysDiffer}

-- ---- what is found among those that pass

module _ {X : Type 0} (p q : X → Bool) where
  -- all that may be found pass
  pub find-kept : (xs : List X) → ((x : X) → p x ≡ true → q x ≡ true) → find p (filter q xs) ≡ find p xs
  find-kept [] passes = refl
  find-kept (x ∷ xs) passes = go (p x) refl (q x) refl (find-kept xs passes)
    where
      go : (b : Bool) → p x ≡ b → (c : Bool) → q x ≡ c → find p (filter q xs) ≡ find p xs → find p (cond c (x ∷ filter q xs) (filter q xs)) ≡ cond b (Some x) (find p xs)
      go true this true kept others = ap (λ b. cond b (Some x) (find p (filter q xs))) this
      go true this false gone others = absurd (cc (passes x this))
      go false other true kept others = ap (λ b. cond b (Some x) (find p (filter q xs))) other ∙ others
      go false other false gone others = others

  -- none that may be found passes
  pub find-gone : (xs : List X) → ((x : X) → p x ≡ true → q x ≡ false) → find p (filter q xs) ≡ None
  find-gone [] fails = refl
  find-gone (x ∷ xs) fails = go (p x) refl (q x) refl (find-gone xs fails)
    where
      go : (b : Bool) → p x ≡ b → (c : Bool) → q x ≡ c → find p (filter q xs) ≡ None → find p (cond c (x ∷ filter q xs) (filter q xs)) ≡ None
      go true this true kept others = absurd (cc (fails x this))
      go false other true kept others = ap (λ b. cond b (Some x) (find p (filter q xs))) other ∙ others
      go _ this false gone others = others

  -- the first that passes both
  pub find-filter : (xs : List X) → find (λ x. p x && q x) xs ≡ find p (filter q xs)
  find-filter [] = refl
  find-filter (x ∷ xs) = go (p x) refl (q x) (find-filter xs)
    where
      go : (b : Bool) → p x ≡ b → (c : Bool) → find (λ y. p y && q y) xs ≡ find p (filter q xs) → cond (b && c) (Some x) (find (λ y. p y && q y) xs) ≡ find p (cond c (x ∷ filter q xs) (filter q xs))
      go true passes true others = sym (ap (λ b. cond b (Some x) (find p (filter q xs))) passes)
      go true passes false others = others
      go false fails true others = others ∙ sym (ap (λ b. cond b (Some x) (find p (filter q xs))) fails)
      go false fails false others = others

  -- where none is found, none is found among fewer
  pub find-filter_none : (xs : List X) → find p xs ≡ None → find p (filter q xs) ≡ None
  find-filter_none [] none = refl
  find-filter_none (x ∷ xs) none = grind (arith, nat_tests, λ (later : find p xs ≡ None). find-filter_none xs later)

  -- some item passes if one that is found does
  pub list_any-found : (x : X) (xs : List X) → find p xs ≡ Some x → q x ≡ true → list_any q xs ≡ true
  list_any-found x [] found passes = absurd (cc)
  list_any-found x (y ∷ ys) found passes = grind (arith, nat_tests, λ (later : find p ys ≡ Some x). list_any-found x ys later passes)

module _ {X : Type 0} (p : X → Bool) where
  -- what is found passes
  pub found_passes : (x : X) (xs : List X) → find p xs ≡ Some x → p x ≡ true
  found_passes x [] found = absurd (cc)
  found_passes x (y ∷ ys) found = grind (arith, nat_tests, λ (later : find p ys ≡ Some x). found_passes x ys later)

  -- ---- places

  -- the first that passes is here, or among the others
  pub position_or_len-here : (x : X) (xs : List X) → p x ≡ true → position_or_len p (x ∷ xs) ≡ 0
  position_or_len-here x xs this = grind (arith, nat_tests)

  pub position_or_len-later : (x : X) (xs : List X) → p x ≡ false → position_or_len p (x ∷ xs) ≡ suc (position_or_len p xs)
  position_or_len-later x xs other = grind (arith, nat_tests)

  pub position_or_len-Some : (xs : List X) (i : ℕ) → position p xs ≡ Some i → position_or_len p xs ≡ i
  position_or_len-Some xs i found = go (nat_lt (position_or_len p xs) (length xs)) found
    where
      go : (b : Bool) → cond b (Some (position_or_len p xs)) None ≡ Some i → position_or_len p xs ≡ i
      go true e = cc
      go false e = cc

  pub position-Some_within : (xs : List X) (i : ℕ) → position p xs ≡ Some i → position_or_len p xs < length xs
  position-Some_within xs i found = go (nat_lt (position_or_len p xs) (length xs)) refl found
    where
      go : (b : Bool) → nat_lt (position_or_len p xs) (length xs) ≡ b → cond b (Some (position_or_len p xs)) None ≡ Some i → position_or_len p xs < length xs
      go true less e = grind (arith, nat_tests)
      go false past e = absurd (cc)

  pub unwrap_or-position : (xs : List X) → unwrap_or (position p xs) (length xs) ≡ position_or_len p xs
  unwrap_or-position xs = go (nat_lt (position_or_len p xs) (length xs)) refl
    where
      go : (b : Bool) → nat_lt (position_or_len p xs) (length xs) ≡ b → unwrap_or (cond b (Some (position_or_len p xs)) None) (length xs) ≡ position_or_len p xs
      go true less = refl
      go false past = grind (arith, nat_tests, prefix_len-le-length (λ x. not (p x)) xs)

  pub position_or_len-None : (xs : List X) → position p xs ≡ None → position_or_len p xs ≡ length xs
  position_or_len-None xs none = grind (arith, nat_tests, prefix_len-le-length (λ x. not (p x)) xs)

  -- ---- one item less

  pub others-absent : (xs : List X) → find p xs ≡ None → filter (λ x. not (p x)) xs ≡ xs
  others-absent [] absent = refl
  others-absent (x ∷ xs) absent = grind (arith, nat_tests, λ (later : find p xs ≡ None). others-absent xs later)

  pub length-others : (xs : List X) → length (filter (λ x. not (p x)) xs) ≤ length xs
  length-others [] = omega arith
  length-others (x ∷ xs) = grind (arith, nat_tests, length-others xs)

  -- one that was there leaves room
  pub length-others_found : (xs : List X) → is_some (find p xs) ≡ true → length (filter (λ x. not (p x)) xs) < length xs
  length-others_found [] found = absurd (false≢true found)
  length-others_found (x ∷ xs) found = grind (arith, nat_tests, length-others xs, λ (later : is_some (find p xs) ≡ true). length-others_found xs later)

  -- ---- one item more

  pub find-insert_other : (y : X) (xs : List X) (i : ℕ) → p y ≡ false → find p (insert xs i y) ≡ find p xs
  find-insert_other y [] zero other = grind (arith, nat_tests)
  find-insert_other y (x ∷ xs) zero other = grind (arith, nat_tests)
  find-insert_other y [] (suc i) other = grind (arith, nat_tests)
  find-insert_other y (x ∷ xs) (suc i) other = grind (arith, nat_tests, find-insert_other y xs i other)

  pub find-insert_this : (y : X) (xs : List X) (i : ℕ) → p y ≡ true → find p xs ≡ None → find p (insert xs i y) ≡ Some y
  find-insert_this y [] zero this none = grind (arith, nat_tests)
  find-insert_this y (x ∷ xs) zero this none = grind (arith, nat_tests)
  find-insert_this y [] (suc i) this none = grind (arith, nat_tests)
  find-insert_this y (x ∷ xs) (suc i) this none = grind (arith, nat_tests, λ (later : find p xs ≡ None). find-insert_this y xs i this later)

  -- ---- changed items

  pub find-map : (f : X → X) → ((x : X) → p (f x) ≡ p x) → (xs : List X) → find p (map f xs) ≡ option_map f (find p xs)
  find-map f keeps [] = refl
  find-map f keeps (x ∷ xs) = rw (keeps x) (go (p x) (find-map f keeps xs))
    where
      go : (b : Bool) → find p (map f xs) ≡ option_map f (find p xs) → cond b (Some (f x)) (find p (map f xs)) ≡ option_map f (cond b (Some x) (find p xs))
      go true others = refl
      go false others = others

-- ---- a test of sameness

-- it is true exactly of equal keys
pub record IsSameness {K : Type 0} (same : K → K → Bool) : Type 0 where
  pub self : (k : K) → same k k ≡ true
  pub equal : (k l : K) → same k l ≡ true → k ≡ l

pub sameness_of_numbers : IsSameness ◌==◌
sameness_of_numbers = record { self = λ k. grind (arith, nat_tests); equal = λ k l same. grind (arith, nat_tests) }

module _ {X K : Type 0} (key : X → K) (same : K → K → Bool) (sameness : IsSameness same) where
  -- keys that differ do so both ways
  differ_back : (k l : K) → same k l ≡ false → same l k ≡ false
  differ_back k l differ = go (same l k) refl
    where
      go : (b : Bool) → same l k ≡ b → b ≡ false
      go false e = refl
      go true e = absurd (false≢true (sym differ ∙ subst (λ x. same x l ≡ true) (sameness.equal l k e) (sameness.self l)))

  -- an item that isn't there under one name of its key isn't under another
  none_of : (k l : K) (xs : List X) → same k l ≡ true → item_of key same k xs ≡ None → item_of key same l xs ≡ None
  none_of k l xs this none = subst (λ m. item_of key same m xs ≡ None) (sameness.equal k l this) none

  -- ---- one item less

  -- the key finds nothing any more, and every other what it found
  pub item_of-all_but : (k l : K) (xs : List X) → item_of key same l (all_but key same k xs) ≡ (if same k l then None else item_of key same l xs)
  item_of-all_but k l xs = go (same k l) refl
    where
      go : (b : Bool) → same k l ≡ b → item_of key same l (all_but key same k xs) ≡ (if b then None else item_of key same l xs)
      go true this = subst (λ m. item_of key same m (all_but key same k xs) ≡ None) (sameness.equal k l this) (find-gone _ _ xs (λ x here. ap not here))
      go false other = find-kept _ _ xs (λ x here. ap not (subst (λ m. same m k ≡ false) (sym (sameness.equal (key x) l here)) (differ_back k l other)))

  pub KeysDiffer-filter : (p : X → Bool) (xs : List X) → KeysDiffer key same xs → KeysDiffer key same (filter p xs)
  KeysDiffer-filter p [] differ = tt
  KeysDiffer-filter p (x ∷ xs) differ = elim (p x) as (λ b. KeysDiffer key same (cond b (x ∷ filter p xs) (filter p xs))) [
    | true ↦ (find-filter_none _ p xs differ.0, KeysDiffer-filter p xs differ.1)
    | false ↦ KeysDiffer-filter p xs differ.1
  ]

  -- without the first
  pub all_but-first : (x : X) (xs : List X) → KeysDiffer key same (x ∷ xs) → all_but key same (key x) (x ∷ xs) ≡ xs
  all_but-first x xs differ = rw (sameness.self (key x)) (others-absent _ xs differ.0)

  -- a removal at the place of the key
  remove-all_but : (k : K) (xs : List X) → KeysDiffer key same xs → position_or_len (λ x. same (key x) k) xs < length xs →
      remove xs (position_or_len (λ x. same (key x) k) xs) ≡ all_but key same k xs
  remove-all_but k [] differ within = absurd (omega arith)
  remove-all_but k (x ∷ xs) differ within = go (same (key x) k) refl (λ fewer. remove-all_but k xs differ.1 fewer)
    where
      here : X → Bool
      here y = same (key y) k

      go : (b : Bool) → same (key x) k ≡ b → (position_or_len here xs < length xs → remove xs (position_or_len here xs) ≡ all_but key same k xs) →
          remove (x ∷ xs) (position_or_len here (x ∷ xs)) ≡ all_but key same k (x ∷ xs)
      go true this others =
          ap (λ n. remove (x ∷ xs) n) (position_or_len-here here x xs this) ∙ grind (arith, nat_tests, others-absent here xs (none_of (key x) k xs this differ.0))
      go false other others =
          let later = position_or_len-later here x xs other in
          ap (λ n. remove (x ∷ xs) n) later ∙ ap (λ l. x ∷ l) (others (omega arith)) ∙ grind (arith, nat_tests)

  -- with one item added to the others, there is one more than before if it wasn't there
  pub length-all_but : (k : K) (xs : List X) → KeysDiffer key same xs → length (all_but key same k xs) + 1 ≡ (if is_some (item_of key same k xs) then length xs else length xs + 1)
  length-all_but k [] differ = refl
  length-all_but k (x ∷ xs) differ = go (same (key x) k) refl (length-all_but k xs differ.1)
    where
      go : (b : Bool) → same (key x) k ≡ b → length (all_but key same k xs) + 1 ≡ (if is_some (item_of key same k xs) then length xs else length xs + 1) →
          length (all_but key same k (x ∷ xs)) + 1 ≡ (if is_some (item_of key same k (x ∷ xs)) then length (x ∷ xs) else length (x ∷ xs) + 1)
      go true this others = grind (arith, nat_tests, ap (λ (l : List X). length l) (others-absent (λ y. same (key y) k) xs (none_of (key x) k xs this differ.0)))
      go false other others = grind (arith, nat_tests)

  -- ---- one item more

  pub KeysDiffer-insert : (y : X) (xs : List X) (i : ℕ) → KeysDiffer key same xs → item_of key same (key y) xs ≡ None → KeysDiffer key same (insert xs i y)
  KeysDiffer-insert y xs zero differ absent = (absent, differ)
  KeysDiffer-insert y [] (suc i) differ absent = (refl, tt)
  KeysDiffer-insert y (x ∷ xs) (suc i) differ absent =
      let other : same (key x) (key y) ≡ false = grind (arith, nat_tests) in
      (find-insert_other _ y xs i (differ_back (key x) (key y) other) ∙ differ.0, KeysDiffer-insert y xs i differ.1 (grind (arith, nat_tests)))

  -- an item in the place of the one that had its key
  pub item_of-replaced : (y : X) (xs ls : List X) (i : ℕ) → ls ≡ all_but key same (key y) xs → (l : K) →
      item_of key same l (insert ls i y) ≡ (if same (key y) l then Some y else item_of key same l xs)
  item_of-replaced y xs ls i rest l = go (same (key y) l) refl
    where
      others : item_of key same l ls ≡ (if same (key y) l then None else item_of key same l xs)
      others = ap (λ m. item_of key same l m) rest ∙ item_of-all_but (key y) l xs

      go : (b : Bool) → same (key y) l ≡ b → item_of key same l (insert ls i y) ≡ (if b then Some y else item_of key same l xs)
      go true this = find-insert_this _ y ls i this (others ∙ ap (λ b. if b then None else item_of key same l xs) this)
      go false other = find-insert_other _ y ls i other ∙ others ∙ ap (λ b. if b then None else item_of key same l xs) other

  -- ---- changed items

  pub KeysDiffer-map : (f : X → X) → ((x : X) → key (f x) ≡ key x) → (xs : List X) → KeysDiffer key same xs → KeysDiffer key same (map f xs)
  KeysDiffer-map f keeps [] differ = tt
  KeysDiffer-map f keeps (x ∷ xs) differ =
      rw (keeps x) (find-map _ f (λ y. ap (λ k. same k (key x)) (keeps y)) xs ∙ ap (option_map f) differ.0, KeysDiffer-map f keeps xs differ.1)

  -- ---- places and items that were found

  -- the item of a key is at this place, the first that a search finds
  pub record IsPlaceOf (k : K) (xs : List X) (i : ℕ) : Type 0 where
    pub first : position_or_len (λ x. same (key x) k) xs ≡ i
    pub within : i < length xs
    pub item : (d : X) → item_of key same k xs ≡ Some (get_or xs i d)
    pub removal : remove xs i ≡ all_but key same k xs

  -- the list that was searched is this one
  pub IsPlaceOf-found : (k : K) (xs seen : List X) (r : Option ℕ) (i : ℕ) → KeysDiffer key same xs → r ≡ position (λ x. same (key x) k) seen → seen ≡ xs → r ≡ Some i → IsPlaceOf k xs i
  IsPlaceOf-found k xs seen r i differ search equal is = record {
    first = place;
    within = inside;
    item = λ d. find_at here xs ∙ ap (λ n. slice_get xs n) place ∙ slice_get-get_or xs i d inside;
    removal = ap (λ n. remove xs n) (sym place) ∙ remove-all_but k xs differ there;
  }
    where
      here : X → Bool
      here x = same (key x) k

      found : position here xs ≡ Some i
      found = sym (search ∙ ap (position here) equal) ∙ is

      place : position_or_len here xs ≡ i
      place = position_or_len-Some here xs i found

      there : position_or_len here xs < length xs
      there = position-Some_within here xs i found

      inside : i < length xs
      inside = omega (arith, place, there)

  pub item_of-not_found : (k : K) (xs seen : List X) (r : Option ℕ) → r ≡ position (λ x. same (key x) k) seen → seen ≡ xs → r ≡ None → item_of key same k xs ≡ None
  item_of-not_found k xs seen r search equal none =
      find_at (λ x. same (key x) k) xs
      ∙ slice_get_past xs _ (omega (arith, position_or_len-None (λ x. same (key x) k) xs (sym (search ∙ ap (position (λ x. same (key x) k)) equal) ∙ none)))

  -- some item that its own key finds passes, where any does
  pub some_found : (q : X → Bool) (xs : List X) → KeysDiffer key same xs → list_any q xs ≡ true → (x : X) × (item_of key same (key x) xs ≡ Some x) × (q x ≡ true)
  some_found q [] differ holds = absurd (false≢true holds)
  some_found q (x ∷ xs) differ holds = go (q x) refl (λ rest. some_found q xs differ.1 rest)
    where
      later : (y : X) × (item_of key same (key y) xs ≡ Some y) × (q y ≡ true) → (y : X) × (item_of key same (key y) (x ∷ xs) ≡ Some y) × (q y ≡ true)
      later (y, found, passes) = (y, by_test (same (key x) (key y)) refl, passes)
        where
          by_test : (b : Bool) → same (key x) (key y) ≡ b → item_of key same (key y) (x ∷ xs) ≡ Some y
          by_test true this = let none : item_of key same (key y) xs ≡ None = none_of (key x) (key y) xs this differ.0 in absurd (cc)
          by_test false other = ap (λ b. cond b (Some x) (item_of key same (key y) xs)) other ∙ found

      go : (b : Bool) → q x ≡ b → (list_any q xs ≡ true → (y : X) × (item_of key same (key y) xs ≡ Some y) × (q y ≡ true)) →
          (y : X) × (item_of key same (key y) (x ∷ xs) ≡ Some y) × (q y ≡ true)
      go true this others = (x, ap (λ b. cond b (Some x) (item_of key same (key x) xs)) (sameness.self (key x)), this)
      go false other others = later (others (ap (λ b. b || list_any q xs) (sym other) ∙ holds))
