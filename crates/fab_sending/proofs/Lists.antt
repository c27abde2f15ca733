-- Lists that are filtered, mapped and found one by one.
use Rattle.std.proofs.Common.{◌≡◌, ℕ, ◌&&◌, Bool, true, false, cond, if◌then◌else◌, List, [], ◌∷◌, ◌++◌, map, filter, filter_map, flat_map, Option, Some, None, refl, ap, ◌∙◌}
use Rattle.std.specs.List.{cons_option}

-- what is made of an item that may be there, where it passes
abbrev pub pick : {X Y : Type 0} → (X → Bool) → (X → Y) → Option X → Option Y
pick p f None = None
pick p f (Some x) = if p x then Some (f x) else None

-- those that pass of the items that are found, made into others
pub filter_map-picked : {X Y : Type 0} (p : X → Bool) (f : X → Y) (find : ℕ → Option X) (places : List ℕ) →
    map f (filter p (filter_map find places)) ≡ filter_map (λ a. pick p f (find a)) places
filter_map-picked p f find [] = refl
filter_map-picked {X = X} {Y = Y} p f find (a ∷ places) = by_item (find a) (filter_map-picked p f find places)
  where
    by_test : (x : X) (b : Bool) → map f (filter p (filter_map find places)) ≡ filter_map (λ y. pick p f (find y)) places →
        map f (cond b (x ∷ filter p (filter_map find places)) (filter p (filter_map find places))) ≡ cons_option (if b then Some (f x) else None) (filter_map (λ y. pick p f (find y)) places)
    by_test x true e = ap (λ ys. f x ∷ ys) e
    by_test x false e = e

    by_item : (o : Option X) → map f (filter p (filter_map find places)) ≡ filter_map (λ y. pick p f (find y)) places →
        map f (filter p (cons_option o (filter_map find places))) ≡ cons_option (pick p f o) (filter_map (λ y. pick p f (find y)) places)
    by_item None e = e
    by_item (Some x) e = by_test x (p x) e

pub filter_map-same : {Y : Type 0} (f g : ℕ → Option Y) → ((a : ℕ) → f a ≡ g a) → (places : List ℕ) → filter_map f places ≡ filter_map g places
filter_map-same f g h [] = refl
filter_map-same f g h (a ∷ places) = ap (λ o. cons_option o (filter_map f places)) (h a) ∙ ap (cons_option (g a)) (filter_map-same f g h places)

pub filter-filter : {X : Type 0} (p q : X → Bool) (xs : List X) → filter p (filter q xs) ≡ filter (λ x. q x && p x) xs
filter-filter p q [] = refl
filter-filter {X = X} p q (x ∷ xs) = by_test (q x) (filter-filter p q xs)
  where
    by_test : (b : Bool) → filter p (filter q xs) ≡ filter (λ y. q y && p y) xs → filter p (cond b (x ∷ filter q xs) (filter q xs)) ≡ cond (b && p x) (x ∷ filter (λ y. q y && p y) xs) (filter (λ y. q y && p y) xs)
    by_test true e = ap (λ ys. cond (p x) (x ∷ ys) ys) e
    by_test false e = e

pub flat_map-same : {X Y : Type 0} (f g : X → List Y) → ((x : X) → f x ≡ g x) → (xs : List X) → flat_map f xs ≡ flat_map g xs
flat_map-same f g h [] = refl
flat_map-same f g h (x ∷ xs) = ap (λ ys. ys ++ flat_map f xs) (h x) ∙ ap (λ ys. g x ++ ys) (flat_map-same f g h xs)
