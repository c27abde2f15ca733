-- Walks over items with ascending keys: ask for the first from a bound on, take it, and go on behind it.
use Rattle.std.proofs.Common.{◌≡◌, ℕ, ◌+◌, ◌-◌, ◌^◌, ◌<◌, ◌≤◌, nat_le, Bool, true, false, cond, if◌then◌else◌, List, [], ◌∷◌, ◌++◌, map, filter, find, Option, Some, None, option_map, append_assoc, append-nil, refl, sym, ap, ◌∙◌, arith}
use Rattle.std.proofs.lemmas.Bool.Decides.{nat_tests}
use Rattle.fab_base.specs.Keyed.{item_at, AscendFrom}

module _ {X : Type 0} (key : X → ℕ) where
  -- the items from the first one on whose key isn't below the bound
  abbrev pub from_on : ℕ → List X → List X
  from_on from [] = []
  from_on from (x ∷ xs) = if nat_le from (key x) then x ∷ xs else from_on from xs

  -- the least key that isn't below the bound
  abbrev pub first_key : ℕ → List X → Option ℕ
  first_key from xs = option_map key (find (λ x. nat_le from (key x)) xs)

  -- This is the least key that isn't below the bound; behind its item the walk goes on.
  pub record IsNext (from : ℕ) (xs : List X) (a : ℕ) : Type 0 where
    pub item : X
    pub at : key item ≡ a
    pub found : item_at key a xs ≡ Some item
    pub first : find (λ x. nat_le from (key x)) xs ≡ Some item
    pub above : from ≤ a
    pub rest : from_on from xs ≡ item ∷ from_on (a + 1) xs

  from_on-ascending : (j k : ℕ) (xs : List X) → j ≤ k → AscendFrom key k xs → from_on j xs ≡ xs
  from_on-ascending j k [] le ascend = refl
  from_on-ascending j k (x ∷ xs) le ascend = grind (arith, nat_tests, ascend.0)

  from_on-all : (xs : List X) → from_on 0 xs ≡ xs
  from_on-all [] = refl
  from_on-all (x ∷ xs) = grind (arith, nat_tests)

  pub next_some : (k from a : ℕ) (xs : List X) → AscendFrom key k xs → Some a ≡ first_key from xs → IsNext from xs a
  next_some k from a [] ascend is = cc
  next_some k from a (x ∷ xs) ascend is = go (nat_le from (key x)) refl is (next_some (key x + 1) from a xs ascend.1)
    where
      go : (b : Bool) → nat_le from (key x) ≡ b → Some a ≡ option_map key (cond b (Some x) (find (λ y. nat_le from (key y)) xs)) → (Some a ≡ first_key from xs → IsNext from xs a) → IsNext from (x ∷ xs) a
      go true t i later =
          let at : key x ≡ a = cc in
          let rest : from_on (a + 1) xs ≡ xs = from_on-ascending (a + 1) (key x + 1) xs (omega arith) ascend.1 in
          record { item = x; at = at; found = grind (arith, nat_tests); first = grind (arith, nat_tests); above = grind (arith, nat_tests); rest = grind (arith, nat_tests, rest) }
      go false f i later =
          let n : IsNext from xs a = later i in
          let behind : key x < a = grind (arith, nat_tests, n.above) in
          record { item = n.item; at = n.at; found = grind (arith, nat_tests, n.found); first = grind (arith, nat_tests, n.first); above = n.above; rest = grind (arith, nat_tests, n.rest) }

  next_none : (from : ℕ) (xs : List X) → None ≡ first_key from xs → from_on from xs ≡ []
  next_none from [] is = refl
  next_none from (x ∷ xs) is = grind (arith, nat_tests, λ (later : None ≡ first_key from xs). next_none from xs later)

  -- ---- what a walk has made so far

  module _ {Z : Type 0} (made : List X → List Z) where
    -- with what the items from the bound on still make, it is what all of them make
    abbrev pub Walked : ℕ → List X → List Z → Type 0
    Walked from xs out = out ++ made (from_on from xs) ≡ made xs

    pub walk_starts : (xs : List X) (out : List Z) → out ≡ [] → Walked 0 xs out
    walk_starts xs out empty = ap (λ l. l ++ made (from_on 0 xs)) empty ∙ ap made (from_on-all xs)

    pub walk_takes : (from a v : ℕ) (xs : List X) (out new : List Z) (z : Z) (n : IsNext from xs a) → ((ys : List X) → made (n.item ∷ ys) ≡ z ∷ made ys) → v ≡ a → new ≡ out ++ z ∷ [] → Walked from xs out → Walked (v + 1) xs new
    walk_takes from a v xs out new z n makes at grown so_far =
        ap (λ l. l ++ made (from_on (v + 1) xs)) grown
        ∙ (append_assoc out (z ∷ []) (made (from_on (v + 1) xs)) ∙ (ap (λ m. out ++ z ∷ made (from_on (m + 1) xs)) at ∙ (ap (λ l. out ++ l) (sym (ap made n.rest ∙ makes (from_on (a + 1) xs))) ∙ so_far)))

    pub walk_passes : (from a v : ℕ) (xs : List X) (out new : List Z) (n : IsNext from xs a) → ((ys : List X) → made (n.item ∷ ys) ≡ made ys) → v ≡ a → new ≡ out → Walked from xs out → Walked (v + 1) xs new
    walk_passes from a v xs out new n makes at same so_far =
        ap (λ l. l ++ made (from_on (v + 1) xs)) same ∙ (ap (λ m. out ++ made (from_on (m + 1) xs)) at ∙ (ap (λ l. out ++ l) (sym (ap made n.rest ∙ makes (from_on (a + 1) xs))) ∙ so_far))

    pub walk_ends : (from : ℕ) (xs : List X) (out : List Z) → made [] ≡ [] → None ≡ first_key from xs → Walked from xs out → out ≡ made xs
    walk_ends from xs out nothing none so_far =
        sym (append-nil out) ∙ (ap (λ l. out ++ l) (sym (ap made (next_none from xs none) ∙ nothing)) ∙ so_far)

-- ---- the measure of a walk

-- addresses have 24 bits
pub walk_goes_on : (from a v : ℕ) → from ≤ a → v ≡ a → v < 2 ^ 24 → 2 ^ 24 - (v + 1) < 2 ^ 24 - from
walk_goes_on from a v above at range = omega arith

-- ---- those that pass a test, each made into another

abbrev pub picked : {X Z : Type 0} → (X → Z) → (X → Bool) → List X → List Z
picked f q xs = map f (filter q xs)

module _ {X Z : Type 0} (key : X → ℕ) (f : X → Z) (q : X → Bool) (from a v : ℕ) (xs : List X) (out new : List Z) (n : IsNext key from xs a) where
  pub one_picked : (z : Z) → z ≡ f n.item → q n.item ≡ true → v ≡ a → new ≡ out ++ z ∷ [] → Walked key (picked f q) from xs out → Walked key (picked f q) (v + 1) xs new
  one_picked z is passes at grown so_far =
      walk_takes key (picked f q) from a v xs out new z n
      (λ ys. ap (λ b. map f (cond b (n.item ∷ filter q ys) (filter q ys))) passes ∙ ap (λ y. y ∷ picked f q ys) (sym is)) at grown so_far

  pub none_picked : q n.item ≡ false → v ≡ a → new ≡ out → Walked key (picked f q) from xs out → Walked key (picked f q) (v + 1) xs new
  none_picked fails at same so_far =
      walk_passes key (picked f q) from a v xs out new n (λ ys. ap (λ b. map f (cond b (n.item ∷ filter q ys) (filter q ys))) fails) at same so_far
