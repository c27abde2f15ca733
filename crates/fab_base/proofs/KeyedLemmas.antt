-- What is found in lists of items with keys after a change, and what ascending lists have in common.
use Rattle.std.proofs.Common.{◌≡◌, ◌⊎◌, ℕ, ◌+◌, ◌<◌, ◌≤◌, ◌==◌, ◌||◌, Bool, true, false, not, cond, if◌then◌else◌, List, [], ◌∷◌, ◌++◌, length, get_or, set, filter, find, position, Option, Some, None, option_map, unwrap_or, is_some, IsSome, nat_lt, refl, sym, ◌∙◌, ap, subst, inl, inr, arith}
use Rattle.std.specs.List.{All, list_any, position_or_len, insert, remove}
use Rattle.std.specs.Option.{option_or, option_map_or}
use Rattle.std.proofs.lemmas.Bool.{cases_order}
use Rattle.std.proofs.lemmas.Bool.Decides.{nat_tests}
use Rattle.std.proofs.lemmas.List.Elements.{All-append, All-cons, All-filter, All-head, All-tail}
use Rattle.std.proofs.lemmas.List.Folds.{find-append}
use Rattle.fab_base.specs.Keyed.{item_at, keys, AscendFrom, added, without, changed_if, changed, KeysDiffer}
use Rattle.fab_base.proofs.SamenessLemmas.{find-kept, find-gone, find-map, others-absent, length-others, length-others_found, item_of-all_but, item_of-not_found, IsPlaceOf, IsPlaceOf-found, sameness_of_numbers, position_or_len-here, position_or_len-later, unwrap_or-position}

-- ---- keys

is_same : (a b : ℕ) → a ≡ b → a == b ≡ true
is_same a b e = grind (arith, nat_tests)

is_less : (a b : ℕ) → a < b → a == b ≡ false
is_less a b e = grind (arith, nat_tests)

is_more : (a b : ℕ) → b < a → a == b ≡ false
is_more a b e = grind (arith, nat_tests)

or_none : {X : Type 0} (o : Option X) → option_or o None ≡ o
or_none None = refl
or_none (Some x) = refl

none_some : {X : Type 0} (x : X) → None ≡ Some x → ⊥
none_some x e = cc

some_same : {X : Type 0} (x y : X) → Some x ≡ Some y → x ≡ y
some_same x y e = cc

module _ {X : Type 0} (key : X → ℕ) where
  -- ---- one more item

  -- each key finds what it found, and that of the new item finds it
  pub item_at-added : (x : X) (xs : List X) (a : ℕ) → item_at key a (added key x xs) ≡ (if key x == a then Some x else item_at key a xs)
  item_at-added x xs a = find-append here (filter below xs) (x ∷ filter above xs) ∙ go (cases_order (key x) a)
    where
      here : X → Bool
      here y = key y == a

      below : X → Bool
      below y = nat_lt (key y) (key x)

      above : X → Bool
      above y = nat_lt (key x) (key y)

      go : (key x ≡ a) ⊎ ((key x < a) ⊎ (a < key x)) → option_or (find here (filter below xs)) (find here (x ∷ filter above xs)) ≡ (if key x == a then Some x else item_at key a xs)
      go (inl same) = rw (find-gone here below xs (λ y is. grind (arith, nat_tests)), is_same (key x) a same) refl
      go (inr (inl less)) = rw (find-gone here below xs (λ y is. grind (arith, nat_tests)), find-kept here above xs (λ y is. grind (arith, nat_tests)), is_less (key x) a less) refl
      go (inr (inr more)) = rw (find-kept here below xs (λ y is. grind (arith, nat_tests)), find-gone here above xs (λ y is. grind (arith, nat_tests)), is_more (key x) a more) (or_none (item_at key a xs))

  -- ---- ascending keys

  pub AscendFrom-weaker : (j k : ℕ) (xs : List X) → j ≤ k → AscendFrom key k xs → AscendFrom key j xs
  AscendFrom-weaker j k [] le ascend = tt
  AscendFrom-weaker j k (x ∷ xs) le ascend = (omega (arith, ascend.0), ascend.1)

  item_at-here : (x : X) (xs : List X) → item_at key (key x) (x ∷ xs) ≡ Some x
  item_at-here x xs = rw (is_same (key x) (key x) refl) refl

  -- no key below the bound is found
  pub item_at-below : (a k : ℕ) (xs : List X) → AscendFrom key k xs → a < k → item_at key a xs ≡ None
  item_at-below a k [] ascend below = refl
  item_at-below a k (x ∷ xs) ascend below = rw (is_more (key x) a (omega (arith, ascend.0))) (item_at-below a (key x + 1) xs ascend.1 (omega (arith, ascend.0)))

  pub AscendFrom-filter : (p : X → Bool) (k : ℕ) (xs : List X) → AscendFrom key k xs → AscendFrom key k (filter p xs)
  AscendFrom-filter p k [] ascend = tt
  AscendFrom-filter p k (x ∷ xs) ascend = elim (p x) as (λ b. AscendFrom key k (cond b (x ∷ filter p xs) (filter p xs))) [
    | true ↦ (ascend.0, AscendFrom-filter p (key x + 1) xs ascend.1)
    | false ↦ AscendFrom-weaker k (key x + 1) (filter p xs) (omega (arith, ascend.0)) (AscendFrom-filter p (key x + 1) xs ascend.1)
  ]

  -- one more above all others
  pub AscendFrom-push : (x : X) (k : ℕ) (xs : List X) → AscendFrom key k xs → All (λ y. key y < key x) xs → k ≤ key x → AscendFrom key k (xs ++ x ∷ [])
  AscendFrom-push x k [] ascend above from = (from, tt)
  AscendFrom-push x k (y ∷ ys) ascend above from =
      (ascend.0, AscendFrom-push x (key y + 1) ys ascend.1 (All-tail (λ z. key z < key x) y ys above) (omega (arith, All-head (λ z. key z < key x) y ys above)))

  filter-above_all : (a k : ℕ) (xs : List X) → AscendFrom key k xs → a < k → filter (λ x. nat_lt a (key x)) xs ≡ xs
  filter-above_all a k [] ascend below = refl
  filter-above_all a k (x ∷ xs) ascend below = grind (arith, nat_tests, ascend.0, filter-above_all a (key x + 1) xs ascend.1 (omega (arith, ascend.0)))

  filter-below_none : (a k : ℕ) (xs : List X) → AscendFrom key k xs → a ≤ k → filter (λ x. nat_lt (key x) a) xs ≡ []
  filter-below_none a k [] ascend below = refl
  filter-below_none a k (x ∷ xs) ascend below = grind (arith, nat_tests, ascend.0, filter-below_none a (key x + 1) xs ascend.1 (omega (arith, ascend.0)))

  -- the new item comes first, in the place of the first, or behind it
  added_cases : (x y : X) (k : ℕ) (xs : List X) → AscendFrom key k (y ∷ xs) →
      ((key x ≡ key y) × (added key x (y ∷ xs) ≡ x ∷ xs)) ⊎ (((key x < key y) × (added key x (y ∷ xs) ≡ x ∷ y ∷ xs)) ⊎ ((key y < key x) × (added key x (y ∷ xs) ≡ y ∷ added key x xs)))
  added_cases x y k xs ascend = elim (cases_order (key x) (key y)) [
    | inl same ↦ inl (same, grind (arith, nat_tests, filter-above_all (key x) (key y + 1) xs ascend.1 (omega arith), filter-below_none (key x) (key y + 1) xs ascend.1 (omega arith)))
    | inr (inl less) ↦ inr (inl (less, grind (arith, nat_tests, filter-above_all (key x) (key y + 1) xs ascend.1 (omega arith), filter-below_none (key x) (key y + 1) xs ascend.1 (omega arith))))
    | inr (inr more) ↦ inr (inr (more, grind (arith, nat_tests)))
  ]

  pub AscendFrom-added : (x : X) (k : ℕ) (xs : List X) → AscendFrom key k xs → k ≤ key x → AscendFrom key k (added key x xs)
  AscendFrom-added x k [] ascend from = (from, tt)
  AscendFrom-added x k (y ∷ ys) ascend from = elim (added_cases x y k ys ascend) [
    | inl same ↦ rw same.1 (from, rw same.0 ascend.1)
    | inr (inl first) ↦ rw first.1 (from, (omega (arith, first.0), ascend.1))
    | inr (inr behind) ↦ rw behind.1 (ascend.0, AscendFrom-added x (key y + 1) ys ascend.1 (omega (arith, behind.0)))
  ]

  -- a new item comes first, or behind the first
  pub added_new_cases : (x y : X) (k : ℕ) (xs : List X) → AscendFrom key k (y ∷ xs) → item_at key (key x) (y ∷ xs) ≡ None →
      ((key x < key y) × (added key x (y ∷ xs) ≡ x ∷ y ∷ xs)) ⊎ ((key y < key x) × (item_at key (key x) xs ≡ None) × (added key x (y ∷ xs) ≡ y ∷ added key x xs))
  added_new_cases x y k xs ascend absent = elim (added_cases x y k xs ascend) [
    | inl same ↦ absurd (none_some y (sym absent ∙ (ap (λ a. item_at key a (y ∷ xs)) same.0 ∙ item_at-here y xs)))
    | inr (inl first) ↦ inl first
    | inr (inr behind) ↦ inr (behind.0, grind (arith, nat_tests), behind.1)
  ]

  pub length-added : (x : X) (k : ℕ) (xs : List X) → AscendFrom key k xs → item_at key (key x) xs ≡ None → length (added key x xs) ≡ length xs + 1
  length-added x k [] ascend absent = refl
  length-added x k (y ∷ ys) ascend absent = elim (added_new_cases x y k ys ascend absent) [
    | inl first ↦ rw first.1 (grind arith)
    | inr behind ↦ rw behind.2 (grind (arith, length-added x (key y + 1) ys ascend.1 behind.1))
  ]

  -- an insert before the first item with a greater key
  pub insert-added : (x : X) (k : ℕ) (xs : List X) → AscendFrom key k xs → item_at key (key x) xs ≡ None → insert xs (position_or_len (λ y. nat_lt (key x) (key y)) xs) x ≡ added key x xs
  insert-added x k [] ascend absent = refl
  insert-added x k (y ∷ ys) ascend absent = elim (added_new_cases x y k ys ascend absent) [
    | inl first ↦ ap (λ n. insert (y ∷ ys) n x) (position_or_len-here (λ z. nat_lt (key x) (key z)) y ys (grind (arith, nat_tests))) ∙ sym first.1
    | inr behind ↦
        ap (λ n. insert (y ∷ ys) n x) (position_or_len-later (λ z. nat_lt (key x) (key z)) y ys (grind (arith, nat_tests)))
        ∙ ap (λ l. y ∷ l) (insert-added x (key y + 1) ys ascend.1 behind.1)
        ∙ sym behind.2
  ]

  -- a test finds what it found, and the new item where that passes and none did
  pub find-added : (q : X → Bool) (x : X) (k : ℕ) (xs : List X) → AscendFrom key k xs → item_at key (key x) xs ≡ None → (q x ≡ true → find q xs ≡ None) →
      find q (added key x xs) ≡ (if q x then Some x else find q xs)
  find-added q x k [] ascend absent none = refl
  find-added q x k (y ∷ ys) ascend absent none = elim (added_new_cases x y k ys ascend absent) [
    | inl first ↦ rw first.1 refl
    | inr behind ↦ rw behind.2 (go (q x) refl (q y) refl (λ later. find-added q x (key y + 1) ys ascend.1 behind.1 later))
  ]
    where
      go : (b : Bool) → q x ≡ b → (c : Bool) → q y ≡ c → ((q x ≡ true → find q ys ≡ None) → find q (added key x ys) ≡ (if q x then Some x else find q ys)) →
          cond c (Some y) (find q (added key x ys)) ≡ (if q x then Some x else cond c (Some y) (find q ys))
      go true this true first others = absurd (let found : cond true (Some y) (find q ys) ≡ None = subst (λ c. cond c (Some y) (find q ys) ≡ None) first (none this) in cc)
      go true this false later others = others (λ t. subst (λ c. cond c (Some y) (find q ys) ≡ None) later (none t))
      go false other true first others = rw other refl
      go false other false later others = others (λ t. absurd (cc))

  -- what holds of all items and of the new one holds of all then
  pub All-added : (P : X → Type 0) (x : X) (xs : List X) → All P xs → P x → All P (added key x xs)
  All-added P x xs all this = All-append P _ _ (All-filter _ P xs all) (All-cons P x _ this (All-filter _ P xs all))

  -- ---- one item less

  -- no key comes twice
  KeysDiffer-ascending : (k : ℕ) (xs : List X) → AscendFrom key k xs → KeysDiffer key ◌==◌ xs
  KeysDiffer-ascending k [] ascend = tt
  KeysDiffer-ascending k (x ∷ xs) ascend = (item_at-below (key x) (key x + 1) xs ascend.1 (omega arith), KeysDiffer-ascending (key x + 1) xs ascend.1)

  pub without-absent : (a : ℕ) (xs : List X) → item_at key a xs ≡ None → without key a xs ≡ xs
  without-absent a xs absent = others-absent (λ x. key x == a) xs absent

  pub item_at-without : (a b : ℕ) (xs : List X) → item_at key b (without key a xs) ≡ (if a == b then None else item_at key b xs)
  item_at-without a b xs = item_of-all_but key ◌==◌ sameness_of_numbers a b xs

  pub length-without : (a : ℕ) (xs : List X) → length (without key a xs) ≤ length xs
  length-without a xs = length-others (λ x. key x == a) xs

  -- one that was there leaves room
  pub length-without_there : (a : ℕ) (xs : List X) (x : X) → item_at key a xs ≡ Some x → length (without key a xs) < length xs
  length-without_there a xs x there = length-others_found (λ x. key x == a) xs (ap is_some there)

  -- the item that was in its place makes no difference to a new one
  pub added-without : (x : X) (xs : List X) → added key x (without key (key x) xs) ≡ added key x xs
  added-without x xs =
      ap (λ l. l ++ x ∷ filter (λ y. nat_lt (key x) (key y)) (without key (key x) xs)) (filter-without (λ y. nat_lt (key y) (key x)) xs (λ y same. grind (arith, nat_tests)))
      ∙ ap (λ l. filter (λ y. nat_lt (key y) (key x)) xs ++ x ∷ l) (filter-without (λ y. nat_lt (key x) (key y)) xs (λ y same. grind (arith, nat_tests)))
    where
      filter-without : (p : X → Bool) (ys : List X) → ((y : X) → (key y == key x) ≡ true → p y ≡ false) → filter p (without key (key x) ys) ≡ filter p ys
      filter-without p [] apart = refl
      filter-without p (y ∷ ys) apart = go (key y == key x) refl (p y) refl (filter-without p ys apart)
        where
          go : (s : Bool) → (key y == key x) ≡ s → (t : Bool) → p y ≡ t → filter p (without key (key x) ys) ≡ filter p ys → filter p (cond (not s) (y ∷ without key (key x) ys) (without key (key x) ys)) ≡ cond t (y ∷ filter p ys) (filter p ys)
          go true this true passes others = absurd (cc (apart y this))
          go true this false fails others = others
          go false other true passes others = ap (λ b. cond b (y ∷ filter p (without key (key x) ys)) (filter p (without key (key x) ys))) passes ∙ ap (λ l. y ∷ l) others
          go false other false fails others = ap (λ b. cond b (y ∷ filter p (without key (key x) ys)) (filter p (without key (key x) ys))) fails ∙ others

  -- ---- a changed item

  module _ (change : X → X) where
    pub changed-absent : (a : ℕ) (xs : List X) → item_at key a xs ≡ None → changed key a change xs ≡ xs
    changed-absent a [] absent = refl
    changed-absent a (x ∷ xs) absent = grind (arith, nat_tests, λ (later : item_at key a xs ≡ None). changed-absent a xs later)

    -- a write at the place of the key
    set-changed : (a : ℕ) (d : X) (xs : List X) → KeysDiffer key ◌==◌ xs → position_or_len (λ x. key x == a) xs < length xs →
        set xs (position_or_len (λ x. key x == a) xs) (change (get_or xs (position_or_len (λ x. key x == a) xs) d)) ≡ changed key a change xs
    set-changed a d [] differ within = absurd (omega arith)
    set-changed a d (x ∷ xs) differ within = go (key x == a) refl (λ fewer. set-changed a d xs differ.1 fewer)
      where
        here : X → Bool
        here y = key y == a

        write : List X → ℕ → List X
        write ys n = set ys n (change (get_or ys n d))

        go : (b : Bool) → (key x == a) ≡ b → (position_or_len here xs < length xs → write xs (position_or_len here xs) ≡ changed key a change xs) → write (x ∷ xs) (position_or_len here (x ∷ xs)) ≡ changed key a change (x ∷ xs)
        go true this others =
            let at : key x ≡ a = grind (arith, nat_tests) in
            ap (λ n. write (x ∷ xs) n) (position_or_len-here here x xs this) ∙ grind (arith, nat_tests, changed-absent a xs (subst (λ n. item_at key n xs ≡ None) at differ.0))
        go false other others =
            let later = position_or_len-later here x xs other in
            ap (λ n. write (x ∷ xs) n) later ∙ ap (λ l. x ∷ l) (others (omega arith)) ∙ grind (arith, nat_tests)

    module _ (keeps : (x : X) → key (change x) ≡ key x) where
      key-changed_if : (a : ℕ) (x : X) → key (changed_if key a change x) ≡ key x
      key-changed_if a x = go (key x == a)
        where
          go : (b : Bool) → key (if b then change x else x) ≡ key x
          go true = keeps x
          go false = refl

      pub AscendFrom-changed : (a k : ℕ) (xs : List X) → AscendFrom key k xs → AscendFrom key k (changed key a change xs)
      AscendFrom-changed a k [] ascend = tt
      AscendFrom-changed a k (x ∷ xs) ascend = rw key-changed_if (ascend.0, AscendFrom-changed a (key x + 1) xs ascend.1)

      pub item_at-changed : (a b : ℕ) (xs : List X) → item_at key b (changed key a change xs) ≡ option_map (changed_if key a change) (item_at key b xs)
      item_at-changed a b xs = find-map (λ x. key x == b) (changed_if key a change) (λ x. ap (λ n. n == b) (key-changed_if a x)) xs

  -- ---- places that a search found

  -- the item of a key is at this place
  pub record IsPlace (a : ℕ) (xs : List X) (i : ℕ) : Type 0 where
    pub within : i < length xs
    pub item : (d : X) → item_at key a xs ≡ Some (get_or xs i d)
    pub removal : remove xs i ≡ without key a xs
    pub write : (change : X → X) (d : X) → set xs i (change (get_or xs i d)) ≡ changed key a change xs

  -- the list that was searched is this one
  pub IsPlace-found : (a k : ℕ) (xs seen : List X) (r : Option ℕ) (i : ℕ) → AscendFrom key k xs → r ≡ position (λ x. key x == a) seen → seen ≡ xs → r ≡ Some i → IsPlace a xs i
  IsPlace-found a k xs seen r i ascend search same is = record {
    within = place.within;
    item = place.item;
    removal = place.removal;
    write = λ change d. ap (λ n. set xs n (change (get_or xs n d))) (sym place.first) ∙ set-changed change a d xs differ (omega (arith, place.first, place.within));
  }
    where
      differ : KeysDiffer key ◌==◌ xs
      differ = KeysDiffer-ascending k xs ascend

      place : IsPlaceOf key ◌==◌ sameness_of_numbers a xs i
      place = IsPlaceOf-found key ◌==◌ sameness_of_numbers a xs seen r i differ search same is

  pub item_at-not_found : (a : ℕ) (xs seen : List X) (r : Option ℕ) → r ≡ position (λ x. key x == a) seen → seen ≡ xs → r ≡ None → item_at key a xs ≡ None
  item_at-not_found a xs seen r search same none = item_of-not_found key ◌==◌ sameness_of_numbers a xs seen r search same none

  -- the new item was inserted before the first with a greater key, or at the end
  pub added-inserted : (x : X) (k : ℕ) (xs seen new : List X) (n : ℕ) → AscendFrom key k xs → item_at key (key x) xs ≡ None → seen ≡ xs →
      n ≡ unwrap_or (position (λ y. nat_lt (key x) (key y)) seen) (length seen) → new ≡ insert xs n x → new ≡ added key x xs
  added-inserted x k xs seen new n ascend absent same place is =
      is
      ∙ ap (λ m. insert xs m x) (place ∙ ap (λ l. unwrap_or (position above l) (length l)) same ∙ unwrap_or-position above xs)
      ∙ insert-added x k xs ascend absent
    where
      above : X → Bool
      above y = nat_lt (key x) (key y)

  -- ---- what is found tells the list

  -- ascending lists in which each key finds the same are the same
  pub equal_by_items : (k : ℕ) (xs ys : List X) → AscendFrom key k xs → AscendFrom key k ys → ((a : ℕ) → item_at key a xs ≡ item_at key a ys) → xs ≡ ys
  equal_by_items k [] [] above below same = refl
  equal_by_items k [] (y ∷ ys) above below same = absurd (none_some y (same (key y) ∙ item_at-here y ys))
  equal_by_items k (x ∷ xs) [] above below same = absurd (none_some x (sym (same (key x)) ∙ item_at-here x xs))
  equal_by_items k (x ∷ xs) (y ∷ ys) above below same = elim (cases_order (key x) (key y)) [
    | inl equal ↦
        let first : x ≡ y = some_same x y (sym (item_at-here x xs) ∙ (same (key x) ∙ (ap (λ a. item_at key a (y ∷ ys)) equal ∙ item_at-here y ys))) in
        ap (λ l. x ∷ l) (equal_by_items (key x + 1) xs ys above.1 (rw equal below.1) (behind equal)) ∙ ap (λ z. z ∷ ys) first
    | inr (inl less) ↦ absurd (none_some x (sym (item_at-below (key x) (key x + 1) (y ∷ ys) (omega (arith, less), below.1) (omega arith)) ∙ (sym (same (key x)) ∙ item_at-here x xs)))
    | inr (inr more) ↦ absurd (none_some y (sym (item_at-below (key y) (key y + 1) (x ∷ xs) (omega (arith, more), above.1) (omega arith)) ∙ (same (key y) ∙ item_at-here y ys)))
  ]
    where
      behind : key x ≡ key y → (a : ℕ) → item_at key a xs ≡ item_at key a ys
      behind equal a = go (key x == a) refl
        where
          go : (b : Bool) → key x == a ≡ b → item_at key a xs ≡ item_at key a ys
          go true this = let at : key x ≡ a = grind (arith, nat_tests) in
              item_at-below a (key x + 1) xs above.1 (omega (arith, at)) ∙ sym (item_at-below a (key y + 1) ys below.1 (omega (arith, at, equal)))
          go false other =
              sym (ap (λ b. cond b (Some x) (item_at key a xs)) other) ∙ (same a ∙ ap (λ b. cond b (Some y) (item_at key a ys)) (ap (λ n. n == a) (sym equal) ∙ other))

  -- ---- keys

  -- the keys of ascending items ascend
  pub AscendFrom-keys : (k : ℕ) (xs : List X) → AscendFrom key k xs → AscendFrom (λ n. n) k (keys key xs)
  AscendFrom-keys k [] ascend = tt
  AscendFrom-keys k (x ∷ xs) ascend = (ascend.0, AscendFrom-keys (key x + 1) xs ascend.1)

  -- a key is among the keys exactly where its item is found
  pub list_any-keys : (a : ℕ) (xs : List X) → list_any (λ n. n == a) (keys key xs) ≡ is_some (item_at key a xs)
  list_any-keys a [] = refl
  list_any-keys a (x ∷ xs) = go (key x == a) (list_any-keys a xs)
    where
      go : (b : Bool) → list_any (λ n. n == a) (keys key xs) ≡ is_some (item_at key a xs) → (b || list_any (λ n. n == a) (keys key xs)) ≡ is_some (cond b (Some x) (item_at key a xs))
      go true others = refl
      go false others = others

  -- a key is among those of the items that pass exactly where its item passes
  pub is_some-item_at-filter : (q : X → Bool) (k a : ℕ) (xs : List X) → AscendFrom key k xs → is_some (item_at key a (filter q xs)) ≡ option_map_or q (item_at key a xs) false
  is_some-item_at-filter q k a [] ascend = refl
  is_some-item_at-filter q k a (x ∷ xs) ascend = go (key x == a) refl (q x) refl (is_some-item_at-filter q (key x + 1) a xs ascend.1)
    where
      go : (b : Bool) → key x == a ≡ b → (c : Bool) → q x ≡ c → is_some (item_at key a (filter q xs)) ≡ option_map_or q (item_at key a xs) false →
          is_some (item_at key a (cond c (x ∷ filter q xs) (filter q xs))) ≡ option_map_or q (cond b (Some x) (item_at key a xs)) false
      go true this true passes others = rw this (sym passes)
      go true this false fails others =
          let at : key x ≡ a = grind (arith, nat_tests) in
          ap is_some (item_at-below a (key x + 1) (filter q xs) (AscendFrom-filter q (key x + 1) xs ascend.1) (omega (arith, at))) ∙ sym fails
      go false other true passes others = rw other others
      go false other false fails others = others

  pub list_any-keys-filter : (q : X → Bool) (k a : ℕ) (xs : List X) → AscendFrom key k xs → list_any (λ n. n == a) (keys key (filter q xs)) ≡ option_map_or q (item_at key a xs) false
  list_any-keys-filter q k a xs ascend = list_any-keys a (filter q xs) ∙ is_some-item_at-filter q k a xs ascend

-- ---- lists of numbers

item_at-number : (a : ℕ) (ns : List ℕ) → item_at (λ n. n) a ns ≡ (if list_any (λ n. n == a) ns then Some a else None)
item_at-number a [] = refl
item_at-number a (n ∷ ns) = go (n == a) refl (item_at-number a ns)
  where
    go : (b : Bool) → n == a ≡ b → item_at (λ n. n) a ns ≡ (if list_any (λ n. n == a) ns then Some a else None) → cond b (Some n) (item_at (λ n. n) a ns) ≡ (if b || list_any (λ n. n == a) ns then Some a else None)
    go true this others = let at : n ≡ a = grind (arith, nat_tests) in ap Some at
    go false other others = others

-- ascending numbers with the same members are the same
pub equal_by_members : (k : ℕ) (ms ns : List ℕ) → AscendFrom (λ n. n) k ms → AscendFrom (λ n. n) k ns → ((a : ℕ) → list_any (λ n. n == a) ms ≡ list_any (λ n. n == a) ns) → ms ≡ ns
equal_by_members k ms ns above below same =
    equal_by_items (λ n. n) k ms ns above below (λ a. item_at-number a ms ∙ (ap (λ b. if b then Some a else None) (same a) ∙ sym (item_at-number a ns)))

-- ---- how many

module _ {X Y : Type 0} (key : X → ℕ) (other_key : Y → ℕ) where
  -- what is found among the first is found among the second
  abbrev pub IsWithin : List X → List Y → Type 0
  IsWithin xs ys = (a : ℕ) → IsSome (item_at key a xs) → IsSome (item_at other_key a ys)

  -- an item without its like
  missing : (x : X) (xs : List X) (ys : List Y) → IsWithin (x ∷ xs) ys → item_at other_key (key x) ys ≡ None → ⊥
  missing x xs ys within none =
      let found : is_some (item_at other_key (key x) ys) ≡ true = within (key x) (ap is_some (item_at-here key x xs)) in
      cc

  -- of two ascending lists, one whose keys are all in the other isn't longer
  pub length-within : (j k : ℕ) (xs : List X) (ys : List Y) → AscendFrom key j xs → AscendFrom other_key k ys → IsWithin xs ys → length xs ≤ length ys
  length-within j k [] ys above below within = omega arith
  length-within j k (x ∷ xs) [] above below within = absurd (missing x xs [] within refl)
  length-within j k (x ∷ xs) (y ∷ ys) above below within = elim (cases_order (key x) (other_key y)) [
    | inl equal ↦ omega (arith, length-within (key x + 1) (other_key y + 1) xs ys above.1 below.1 (both equal))
    | inr (inl less) ↦ absurd (missing x xs (y ∷ ys) within (item_at-below other_key (key x) (key x + 1) (y ∷ ys) (omega (arith, less), below.1) (omega arith)))
    | inr (inr more) ↦ omega (arith, length-within j (other_key y + 1) (x ∷ xs) ys above below.1 (later more))
  ]
    where
      both : key x ≡ other_key y → IsWithin xs ys
      both equal a found = go (key x == a) refl
        where
          go : (b : Bool) → key x == a ≡ b → IsSome (item_at other_key a ys)
          go true this =
              let at : key x ≡ a = grind (arith, nat_tests) in
              let none : item_at key a xs ≡ None = item_at-below key a (key x + 1) xs above.1 (omega (arith, at)) in
              absurd (cc)
          go false other =
              subst (λ b. IsSome (cond b (Some y) (item_at other_key a ys))) (ap (λ n. n == a) (sym equal) ∙ other)
              (within a (subst (λ b. IsSome (cond b (Some x) (item_at key a xs))) (sym other) found))

      later : other_key y < key x → IsWithin (x ∷ xs) ys
      later more a found = go (other_key y == a) refl
        where
          go : (b : Bool) → other_key y == a ≡ b → IsSome (item_at other_key a ys)
          go true this =
              let at : other_key y ≡ a = grind (arith, nat_tests) in
              let none : item_at key a (x ∷ xs) ≡ None = item_at-below key a (key x) (x ∷ xs) (omega arith, above.1) (omega (arith, at, more)) in
              absurd (cc)
          go false other = subst (λ b. IsSome (cond b (Some y) (item_at other_key a ys))) other (within a found)

  -- and is shorter where a key of the other isn't in it
  pub length-fewer : (j k a : ℕ) (xs : List X) (ys : List Y) → AscendFrom key j xs → AscendFrom other_key k ys → IsWithin xs ys → item_at key a xs ≡ None → IsSome (item_at other_key a ys) → length xs < length ys
  length-fewer j k a xs ys above below within none some = go (item_at other_key a ys) refl
    where
      kept : IsWithin xs (without other_key a ys)
      kept b found = go (a == b) refl
        where
          go : (c : Bool) → a == b ≡ c → IsSome (item_at other_key b (without other_key a ys))
          go true this = let at : a ≡ b = grind (arith, nat_tests) in let gone : item_at key b xs ≡ None = subst (λ n. item_at key n xs ≡ None) at none in absurd (cc)
          go false other = subst IsSome (sym (item_at-without other_key a b ys ∙ ap (λ c. if c then None else item_at other_key b ys) other)) (within b found)

      go : (o : Option Y) → item_at other_key a ys ≡ o → length xs < length ys
      go None is = absurd (cc)
      go (Some y) is = omega (arith, length-within j k xs (without other_key a ys) above (AscendFrom-filter other_key _ k ys below) kept, length-without_there other_key a ys y is)
