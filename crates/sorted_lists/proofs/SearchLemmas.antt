-- What stands at a place of a list that ascends says on which side of it a bound is.
use Rattle.std.proofs.Common.{◌≡◌, ℕ, zero, suc, ◌+◌, ◌<◌, ◌≤◌, ◌==◌, ◌&&◌, Bool, true, false, not, cond, List, [], ◌∷◌, length, get_or, drop, find, position, Some, None, nat_lt, nat_le, refl, sym, ◌∙◌, ap, subst, arith}
use Rattle.std.specs.List.{position_or_len}
use Rattle.std.proofs.lemmas.Bool.{eqb-false, leb-true, le-leb, lt-ltb}
use Rattle.std.proofs.lemmas.List.{get_or_default}
use Rattle.std.proofs.lemmas.List.Sums.{prefix_len-le-length}
use Rattle.std.proofs.lemmas.Bool.Decides.{nat_tests}
use Rattle.fab_base.specs.Keyed.{AscendFrom}
use Rattle.sorted_lists.specs.Reach.{place_of}
use Rattle.fab_base.proofs.SamenessLemmas.{position_or_len-here, position_or_len-later}

module _ {X : Type 0} (key : X → ℕ) where
  key-from : (k : ℕ) (xs : List X) (m : ℕ) (d : X) → AscendFrom key k xs → m < length xs → k ≤ key (get_or xs m d)
  key-from k [] m d ascend lt = absurd (omega arith)
  key-from k (x ∷ xs) zero d ascend lt = ascend.0
  key-from k (x ∷ xs) (suc m) d ascend lt = let h = key-from (key x + 1) xs m d ascend.1 (omega arith) in omega (arith, h, ascend.0)

  -- a bound above the item at a place stands behind it
  pub place-above : (from k : ℕ) (xs : List X) (m : ℕ) (d : X) → AscendFrom key k xs → m < length xs → key (get_or xs m d) < from → m < place_of key from xs
  place-above from k [] m d ascend lt below = absurd (omega arith)
  place-above from k (x ∷ xs) zero d ascend lt below = omega (arith, position_or_len-later (λ y. nat_le from (key y)) x xs (grind (arith, nat_tests)))
  place-above from k (x ∷ xs) (suc m) d ascend lt below =
      let first = key-from (key x + 1) xs m d ascend.1 (omega arith) in
      let later = position_or_len-later (λ y. nat_le from (key y)) x xs (grind (arith, nat_tests, first)) in
      let rest = place-above from (key x + 1) xs m d ascend.1 (omega arith) below in
      omega (arith, later, rest)

  -- and another before it or there
  pub place-below : (from : ℕ) (xs : List X) (m : ℕ) (d : X) → m < length xs → from ≤ key (get_or xs m d) → place_of key from xs ≤ m
  place-below from [] m d lt le = absurd (omega arith)
  place-below from (x ∷ xs) zero d lt le = omega (arith, position_or_len-here (λ y. nat_le from (key y)) x xs (grind (arith, nat_tests)))
  place-below from (x ∷ xs) (suc m) d lt le = go (nat_le from (key x)) refl (place-below from xs m d (omega arith) le)
    where
      go : (b : Bool) → nat_le from (key x) ≡ b → place_of key from xs ≤ m → place_of key from (x ∷ xs) ≤ suc m
      go true here rest = omega (arith, position_or_len-here (λ y. nat_le from (key y)) x xs here)
      go false other rest = omega (arith, position_or_len-later (λ y. nat_le from (key y)) x xs other)

  pub place-within : (from : ℕ) (xs : List X) → place_of key from xs ≤ length xs
  place-within from xs = prefix_len-le-length (λ y. not (nat_le from (key y))) xs

  -- so what stands there says whether its place comes before that of the bound
  pub tested : (from : ℕ) (xs : List X) (m : ℕ) (d : X) → AscendFrom key 0 xs → m < length xs → nat_lt (key (get_or xs m d)) from ≡ nat_lt m (place_of key from xs)
  tested from xs m d ascend lt = go (nat_lt (key (get_or xs m d)) from) refl
    where
      go : (b : Bool) → nat_lt (key (get_or xs m d)) from ≡ b → nat_lt (key (get_or xs m d)) from ≡ nat_lt m (place_of key from xs)
      go true is = is ∙ sym (lt-ltb m (place_of key from xs) (place-above from 0 xs m d ascend lt (grind (arith, nat_tests))))
      go false is = let le = place-below from xs m d lt (grind (arith, nat_tests)) in grind (arith, nat_tests)

  -- ---- the item at an address

  abbrev first_at : ℕ → List X → ℕ
  first_at a xs = position_or_len (λ y. key y == a) xs

  first_at-place : (a k : ℕ) (xs : List X) (d : X) → AscendFrom key k xs → place_of key a xs < length xs → (key (get_or xs (place_of key a xs) d) == a) ≡ true → first_at a xs ≡ place_of key a xs
  first_at-place a k [] d ascend lt same = absurd (omega arith)
  first_at-place a k (x ∷ xs) d ascend lt same = go (nat_le a (key x)) refl (first_at-place a (key x + 1) xs d ascend.1)
    where
      go : (b : Bool) → nat_le a (key x) ≡ b → (place_of key a xs < length xs → (key (get_or xs (place_of key a xs) d) == a) ≡ true → first_at a xs ≡ place_of key a xs) → first_at a (x ∷ xs) ≡ place_of key a (x ∷ xs)
      go true here rest =
          let place = position_or_len-here (λ y. nat_le a (key y)) x xs here in
          position_or_len-here (λ y. key y == a) x xs (subst (λ (n : ℕ). (key (get_or (x ∷ xs) n d) == a) ≡ true) place same) ∙ sym place
      go false other rest =
          let place = position_or_len-later (λ y. nat_le a (key y)) x xs other in
          position_or_len-later (λ y. key y == a) x xs (grind (arith, nat_tests))
          ∙ ap (λ (n : ℕ). suc n) (rest (omega arith) (subst (λ (n : ℕ). (key (get_or (x ∷ xs) n d) == a) ≡ true) place same)) ∙ sym place

  first_at-above : (a k : ℕ) (xs : List X) → AscendFrom key k xs → a < k → first_at a xs ≡ length xs
  first_at-above a k [] ascend lt = refl
  first_at-above a k (x ∷ xs) ascend lt =
      position_or_len-later (λ y. key y == a) x xs (let h : k ≤ key x = ascend.0 in grind (arith, nat_tests)) ∙ ap (λ (n : ℕ). suc n) (first_at-above a (key x + 1) xs ascend.1 (omega (arith, ascend.0)))

  first_at-none : (a k : ℕ) (xs : List X) → AscendFrom key k xs → (place_of key a xs < length xs → (d : X) → (key (get_or xs (place_of key a xs) d) == a) ≡ false) → first_at a xs ≡ length xs
  first_at-none a k [] ascend other = refl
  first_at-none a k (x ∷ xs) ascend other = go (nat_le a (key x)) refl (first_at-none a (key x + 1) xs ascend.1)
    where
      go : (b : Bool) → nat_le a (key x) ≡ b → ((place_of key a xs < length xs → (d : X) → (key (get_or xs (place_of key a xs) d) == a) ≡ false) → first_at a xs ≡ length xs) → first_at a (x ∷ xs) ≡ suc (length xs)
      go true here rest =
          let place = position_or_len-here (λ y. nat_le a (key y)) x xs here in
          let differs : (key x == a) ≡ false = subst (λ (n : ℕ). (key (get_or (x ∷ xs) n x) == a) ≡ false) place (other (omega (arith, place)) x) in
          position_or_len-later (λ y. key y == a) x xs differs
          ∙ ap (λ (n : ℕ). suc n) (first_at-above a (key x + 1) xs ascend.1 (let le : a ≤ key x = leb-true a (key x) here in let ne = eqb-false (key x) a differs in omega (arith, ne)))
      go false below rest =
          let place = position_or_len-later (λ y. nat_le a (key y)) x xs below in
          position_or_len-later (λ y. key y == a) x xs (grind (arith, nat_tests))
          ∙ ap (λ (n : ℕ). suc n) (rest (λ lt d. subst (λ (n : ℕ). (key (get_or (x ∷ xs) n d) == a) ≡ false) place (other (omega (arith, place, lt)) d)))

  found : (a n : ℕ) (xs : List X) → first_at a xs ≡ n → n < length xs → Some n ≡ position (λ x. key x == a) xs
  found a n xs is lt = sym (ap (λ b. cond b (Some (first_at a xs)) None) (ap (λ (m : ℕ). nat_lt m (length xs)) is ∙ lt-ltb n (length xs) lt) ∙ ap (λ (m : ℕ). Some m) is)

  -- the item where an address would stand has it
  pub position-there : (a k n : ℕ) (xs : List X) (d : X) → AscendFrom key k xs → n ≡ place_of key a xs → n < length xs → (key (get_or xs n d) == a) ≡ true → Some n ≡ position (λ x. key x == a) xs
  position-there a k n xs d ascend is lt same = found a n xs (first_at-place a k xs d ascend (omega (arith, is)) (subst (λ (m : ℕ). (key (get_or xs m d) == a) ≡ true) is same) ∙ sym is) lt

  -- or no item has it
  none_at : (a k : ℕ) (xs : List X) → AscendFrom key k xs → (place_of key a xs < length xs → (d : X) → (key (get_or xs (place_of key a xs) d) == a) ≡ false) → None ≡ position (λ x. key x == a) xs
  none_at a k xs ascend other = sym (ap (λ b. cond b (Some (first_at a xs)) None) (ap (λ (m : ℕ). nat_lt m (length xs)) (first_at-none a k xs ascend other) ∙ ltb_no (length xs)))
    where
      ltb_no : (n : ℕ) → nat_lt n n ≡ false
      ltb_no n = grind (arith, nat_tests)

  pub position-past : (a k n : ℕ) (xs : List X) → AscendFrom key k xs → n ≡ place_of key a xs → n ≡ length xs → None ≡ position (λ x. key x == a) xs
  position-past a k n xs ascend is end = none_at a k xs ascend (λ lt d. absurd (omega (arith, is, end)))

  pub position-other : (a k n : ℕ) (xs : List X) (d : X) → AscendFrom key k xs → n ≡ place_of key a xs → n < length xs → (key (get_or xs n d) == a) ≡ false → None ≡ position (λ x. key x == a) xs
  position-other a k n xs d ascend is lt other =
      none_at a k xs ascend (subst (λ (m : ℕ). m < length xs → (e : X) → (key (get_or xs m e) == a) ≡ false) is (λ within e. ap (λ x. key x == a) (get_or_default xs n e d lt) ∙ other))

  -- ---- the first from a bound on

  module _ (q : X → Bool) where
    find-all_from : (from k : ℕ) (xs : List X) → AscendFrom key k xs → from ≤ k → find (λ x. nat_le from (key x) && q x) xs ≡ find q xs
    find-all_from from k [] ascend le = refl
    find-all_from from k (x ∷ xs) ascend le =
        ap (λ b. cond (b && q x) (Some x) (find (λ y. nat_le from (key y) && q y) xs)) (le-leb from (key x) (omega (arith, ascend.0)))
        ∙ ap (λ o. cond (q x) (Some x) o) (find-all_from from (key x + 1) xs ascend.1 (omega (arith, ascend.0)))

    -- the first that passes from a bound on is the first behind its place
    pub find-from : (from k : ℕ) (xs : List X) → AscendFrom key k xs → find q (drop (place_of key from xs) xs) ≡ find (λ x. nat_le from (key x) && q x) xs
    find-from from k [] ascend = refl
    find-from from k (x ∷ xs) ascend = go (nat_le from (key x)) refl (find-from from (key x + 1) xs ascend.1)
      where
        go : (b : Bool) → nat_le from (key x) ≡ b → find q (drop (place_of key from xs) xs) ≡ find (λ y. nat_le from (key y) && q y) xs
            → find q (drop (place_of key from (x ∷ xs)) (x ∷ xs)) ≡ find (λ y. nat_le from (key y) && q y) (x ∷ xs)
        go true here rest =
            ap (λ (n : ℕ). find q (drop n (x ∷ xs))) (position_or_len-here (λ y. nat_le from (key y)) x xs here)
            ∙ sym (find-all_from from from (x ∷ xs) (leb-true from (key x) here, ascend.1) (omega arith))
        go false below rest =
            ap (λ (n : ℕ). find q (drop n (x ∷ xs))) (position_or_len-later (λ y. nat_le from (key y)) x xs below) ∙ rest
            ∙ sym (ap (λ b. cond (b && q x) (Some x) (find (λ y. nat_le from (key y) && q y) xs)) below)
