-- Lists and tests that several files speak of.
use Rattle.std.proofs.Common.{◌≡◌, ℕ, zero, suc, ◌+◌, List, [], ◌∷◌, ◌++◌, Bool, true, ◌||◌, Some, take, slice_get, map, refl, ◌∙◌, ap, arith}
use Rattle.std.specs.List.{list_any, list_all}
use Rattle.std.proofs.lemmas.Bool.{and_parts, and_from}

-- a test of the values of items
pub any_map : {X Y : Type 0} (f : Y → Bool) (v : X → Y) (xs : List X) → list_any f (map v xs) ≡ list_any (λ x. f (v x)) xs
any_map f v [] = refl
any_map f v (x ∷ xs) = ap (λ b. f (v x) || b) (any_map f v xs)

-- what a test tells of each item
pub all_more : {X : Type 0} (p q : X → Bool) → ((x : X) → p x ≡ true → q x ≡ true) → (xs : List X) → list_all p xs ≡ true → list_all q xs ≡ true
all_more p q more [] h = refl
all_more p q more (x ∷ xs) h = let both = and_parts _ _ h in and_from (q x) (list_all q xs) (more x both.0) (all_more p q more xs both.1)

-- one item more
pub take_slice : {X : Type 0} (xs : List X) (i : ℕ) (x : X) → slice_get xs i ≡ Some x → take (i + 1) xs ≡ take i xs ++ x ∷ []
take_slice [] i x e = absurd (cc)
take_slice (y ∷ ys) zero x e = let is : y ≡ x = cc in ap (λ z. z ∷ []) is
take_slice (y ∷ ys) (suc i) x e = ap (λ (n : ℕ). take n (y ∷ ys)) (let s : suc i + 1 ≡ suc (i + 1) = omega arith in s) ∙ ap (λ l. y ∷ l) (take_slice ys i x e)
