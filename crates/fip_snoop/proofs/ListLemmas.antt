-- Filters of lists, what is found in them, and what is among their items.
use Rattle.std.proofs.Common.{◌≡◌, ℕ, zero, suc, ◌+◌, ◌<◌, length, drop, slice_get, Bool, true, false, cond, ◌||◌, List, [], ◌∷◌, filter, find, map, Option, Some, None, option_map, option_to_list, ◌⊎◌, refl, sym, ◌∙◌, ap, subst, arith, inl, inr}
use mathlib.Core.Bool.{false≢true}
use Rattle.std.specs.List.{list_any}
use Rattle.std.proofs.lemmas.Bool.Decides.{nat_tests}

-- the order of two filters is free
pub filter-swap : {X : Type 0} (p q : X → Bool) (xs : List X) → filter p (filter q xs) ≡ filter q (filter p xs)
filter-swap p q [] = refl
filter-swap p q (x ∷ xs) = go (p x) refl (q x) refl (filter-swap p q xs)
  where
    go : (a : Bool) → p x ≡ a → (b : Bool) → q x ≡ b → filter p (filter q xs) ≡ filter q (filter p xs) → filter p (cond b (x ∷ filter q xs) (filter q xs)) ≡ filter q (cond a (x ∷ filter p xs) (filter p xs))
    go true e true f others = grind (arith, nat_tests)
    go true e false f others = grind (arith, nat_tests)
    go false e true f others = grind (arith, nat_tests)
    go false e false f others = others

-- none that passes one filter passes the other
pub filter-gone : {X : Type 0} (p q : X → Bool) (xs : List X) → ((x : X) → p x ≡ true → q x ≡ false) → filter p (filter q xs) ≡ []
filter-gone p q [] fails = refl
filter-gone p q (x ∷ xs) fails = go (p x) refl (q x) refl (filter-gone p q xs fails)
  where
    go : (a : Bool) → p x ≡ a → (b : Bool) → q x ≡ b → filter p (filter q xs) ≡ [] → filter p (cond b (x ∷ filter q xs) (filter q xs)) ≡ []
    go true e true f others = absurd (cc (fails x e))
    go true e false f others = others
    go false e true f others = grind (arith, nat_tests)
    go false e false f others = others

-- all that pass one filter pass the other
pub filter-kept : {X : Type 0} (p q : X → Bool) (xs : List X) → ((x : X) → p x ≡ true → q x ≡ true) → filter p (filter q xs) ≡ filter p xs
filter-kept p q [] passes = refl
filter-kept p q (x ∷ xs) passes = go (p x) refl (q x) refl (filter-kept p q xs passes)
  where
    go : (a : Bool) → p x ≡ a → (b : Bool) → q x ≡ b → filter p (filter q xs) ≡ filter p xs → filter p (cond b (x ∷ filter q xs) (filter q xs)) ≡ cond a (x ∷ filter p xs) (filter p xs)
    go true e true f others = grind (arith, nat_tests)
    go true e false f others = absurd (cc (passes x e))
    go false e true f others = grind (arith, nat_tests)
    go false e false f others = others

-- the first item
abbrev pub first : {X : Type 0} → List X → Option X
first [] = None
first (x ∷ xs) = Some x

pub first-option : {X : Type 0} (o : Option X) → first (option_to_list o) ≡ o
first-option None = refl
first-option (Some x) = refl

pub find-first : {X : Type 0} (p : X → Bool) (xs : List X) → find p xs ≡ first (filter p xs)
find-first p [] = refl
find-first p (x ∷ xs) = go (p x) (find-first p xs)
  where
    go : (a : Bool) → find p xs ≡ first (filter p xs) → cond a (Some x) (find p xs) ≡ first (cond a (x ∷ filter p xs) (filter p xs))
    go true others = refl
    go false others = others

pub first-map : {X Y : Type 0} (f : X → Y) (xs : List X) → first (map f xs) ≡ option_map f (first xs)
first-map f [] = refl
first-map f (x ∷ xs) = refl

-- what is found where the items that pass are one or none
pub found : {X : Type 0} (p : X → Bool) (xs : List X) (o : Option X) → filter p xs ≡ option_to_list o → find p xs ≡ o
found p xs o e = find-first p xs ∙ ap first e ∙ first-option o

pub found_by : {X Y : Type 0} (f : X → Y) (p : X → Bool) (xs : List X) (o : Option Y) → map f (filter p xs) ≡ option_to_list o → option_map f (find p xs) ≡ o
found_by f p xs o e = ap (option_map f) (find-first p xs) ∙ sym (first-map f (filter p xs)) ∙ ap first e ∙ first-option o

-- ---- among

abbrev pub Among : {X : Type 0} → X → List X → Type 0
Among x [] = ⊥
Among x (y ∷ ys) = (x ≡ y) ⊎ Among x ys

pub any-among : {X : Type 0} (q : X → Bool) (xs : List X) → list_any q xs ≡ true → (x : X) × Among x xs × (q x ≡ true)
any-among q [] e = absurd (false≢true e)
any-among {X} q (x ∷ xs) e = go (q x) refl e (λ e. any-among q xs e)
  where
    go : (a : Bool) → q x ≡ a → a || list_any q xs ≡ true → (list_any q xs ≡ true → (y : X) × Among y xs × (q y ≡ true)) → (y : X) × Among y (x ∷ xs) × (q y ≡ true)
    go true is e others = (x, inl refl, is)
    go false is e others = let h = others e in (h.0, inr h.1, h.2)

pub among-any : {X : Type 0} (q : X → Bool) (x : X) (xs : List X) → Among x xs → q x ≡ true → list_any q xs ≡ true
among-any q x [] among passes = absurd among
among-any q x (y ∷ ys) (inl e) passes = grind (arith, nat_tests)
among-any q x (y ∷ ys) (inr among) passes = grind (arith, nat_tests, among-any q x ys among passes)

pub among-filter : {X : Type 0} (p : X → Bool) (x : X) (xs : List X) → Among x xs → p x ≡ true → Among x (filter p xs)
among-filter p x [] among passes = among
among-filter p x (y ∷ ys) among passes = go (p y) refl among (λ among. among-filter p x ys among passes)
  where
    go : (a : Bool) → p y ≡ a → (x ≡ y) ⊎ Among x ys → (Among x ys → Among x (filter p ys)) → Among x (cond a (y ∷ filter p ys) (filter p ys))
    go true is (inl e) later = inl e
    go true is (inr others) later = inr (later others)
    go false is (inl e) later = absurd (false≢true (sym is ∙ ap p (sym e) ∙ passes))
    go false is (inr others) later = later others

pub filter-among : {X : Type 0} (p : X → Bool) (x : X) (xs : List X) → Among x (filter p xs) → Among x xs
filter-among p x [] among = among
filter-among p x (y ∷ ys) among = go (p y) among (λ among. filter-among p x ys among)
  where
    go : (a : Bool) → Among x (cond a (y ∷ filter p ys) (filter p ys)) → (Among x (filter p ys) → Among x ys) → (x ≡ y) ⊎ Among x ys
    go true (inl e) later = inl e
    go true (inr others) later = inr (later others)
    go false others later = inr (later others)

pub among-option : {X : Type 0} (x : X) (o : Option X) → Among x (option_to_list o) → o ≡ Some x
among-option x None among = absurd among
among-option x (Some y) (inl e) = ap Some (sym e)
among-option x (Some y) (inr none) = absurd none

pub option-among : {X : Type 0} (x : X) (o : Option X) → o ≡ Some x → Among x (option_to_list o)
option-among x o e = subst (λ o. Among x (option_to_list o)) (sym e) (inl refl)

-- two tests that hold alike are one
pub alike : (a b : Bool) → (a ≡ true → b ≡ true) → (b ≡ true → a ≡ true) → a ≡ b
alike true true there back = refl
alike true false there back = sym (there refl)
alike false true there back = back refl
alike false false there back = refl

-- ---- places

-- what holds of some item from a place on holds of that one or of some behind it
pub any-from : {X : Type 0} (p : X → Bool) (xs : List X) (i : ℕ) (x : X) → slice_get xs i ≡ Some x → list_any p (drop i xs) ≡ p x || list_any p (drop (suc i) xs)
any-from p [] zero x e = absurd (cc)
any-from p [] (suc i) x e = absurd (cc)
any-from p (y ∷ ys) zero x e = ap (λ z. p z || list_any p ys) (some_is e)
  where
    some_is : Some y ≡ Some x → y ≡ x
    some_is e = cc
any-from p (y ∷ ys) (suc i) x e = any-from p ys i x e

some_within : {X : Type 0} (xs : List X) (i : ℕ) → i < length xs → slice_get xs i ≡ None → ⊥
some_within [] zero less none = omega (arith, less)
some_within [] (suc i) less none = omega (arith, less)
some_within (x ∷ xs) zero less none = absurd (cc)
some_within (x ∷ xs) (suc i) less none = some_within xs i (omega (arith, less)) none

-- by what was found at a place
pub any-found : {X : Type 0} (p : X → Bool) (xs : List X) (i : ℕ) (o : Option X) (x : X) (b : Bool) → o ≡ slice_get xs i → o ≡ Some x → b ≡ p x → list_any p (drop i xs) ≡ b || list_any p (drop (i + 1) xs)
any-found p xs i o x b at is says =
    any-from p xs i x (sym at ∙ is) ∙ ap (λ k. p x || list_any p (drop k xs)) (next i) ∙ ap (λ c. c || list_any p (drop (i + 1) xs)) (sym says)
  where
    next : (i : ℕ) → suc i ≡ i + 1
    next i = omega arith

pub any-past : {X : Type 0} (p : X → Bool) (xs : List X) (i : ℕ) (o : Option X) → o ≡ slice_get xs i → o ≡ None → i < length xs → list_any p (drop i xs) ≡ list_any p (drop (i + 1) xs)
any-past p xs i o at is less = absurd (some_within xs i less (sym at ∙ is))
