-- Fronts of lists, and what is behind them.
use Rattle.std.proofs.Common.{◌≡◌, ℕ, zero, suc, ◌≤◌, ◌<◌, Bool, true, false, eqb, leb, ◌&&◌, ◌||◌, not, List, [], ◌∷◌, ◌++◌, length, take, drop, slice_get, Some, refl, sym, ap, ◌∙◌, subst, arith}
use Rattle.std.specs.List.{list_any, list_all}
use Rattle.std.proofs.lemmas.Bool.{leb-true, ne_eqb}

-- What stands at the front of the rest of a list goes to the end of its front.
pub record NextOf {X : Type 0} (xs : List X) (k : ℕ) (x : X) (more : List X) : Type 0 where
  pub rest : drop (suc k) xs ≡ more
  pub front : take (suc k) xs ≡ take k xs ++ x ∷ []
  pub at : slice_get xs k ≡ Some x
  pub size : length (take k xs) ≡ k

pub next_of : {X : Type 0} (xs : List X) (k : ℕ) (x : X) (more : List X) → drop k xs ≡ x ∷ more → NextOf xs k x more
next_of [] zero x more e = absurd (cc)
next_of [] (suc k) x more e = absurd (cc)
next_of (y ∷ xs) zero x more e = record { rest = cc; front = cc; at = cc; size = refl }
next_of (y ∷ xs) (suc k) x more e =
    let h = next_of xs k x more e in
    record { rest = h.rest; front = ap (λ l. y ∷ l) h.front; at = h.at; size = ap suc h.size }

-- what stands at a place of a list is at the front of its rest
pub rest_at : {X : Type 0} (xs : List X) (k : ℕ) (x : X) → slice_get xs k ≡ Some x → drop k xs ≡ x ∷ drop (suc k) xs
rest_at [] k x e = absurd (cc)
rest_at (y ∷ xs) zero x e = cc
rest_at (y ∷ xs) (suc k) x e = rest_at xs k x e

-- where nothing is left, the front is all
pub front_all : {X : Type 0} (xs : List X) (k : ℕ) → drop k xs ≡ [] → take k xs ≡ xs
front_all [] zero e = refl
front_all [] (suc k) e = refl
front_all (y ∷ xs) zero e = absurd (cc)
front_all (y ∷ xs) (suc k) e = ap (λ l. y ∷ l) (front_all xs k e)

-- behind the last place nothing is left
pub rest_none : {X : Type 0} (xs : List X) (k : ℕ) → length xs ≤ k → drop k xs ≡ []
rest_none [] zero le = refl
rest_none [] (suc k) le = refl
rest_none (y ∷ xs) zero le = absurd (omega arith)
rest_none (y ∷ xs) (suc k) le = rest_none xs k (omega arith)

-- the rest behind a front
pub rest_behind : {X : Type 0} (xs ys : List X) → drop (length xs) (xs ++ ys) ≡ ys
rest_behind [] ys = refl
rest_behind (x ∷ xs) ys = rest_behind xs ys

pub take_front : {X : Type 0} (xs ys : List X) → take (length xs) (xs ++ ys) ≡ xs
take_front [] ys = refl
take_front (x ∷ xs) ys = ap (λ l. x ∷ l) (take_front xs ys)

-- a slice that is handed back to its vector, as long as it was lent
pub lent_back : {X : Type 0} (n : ℕ) (new old : List X) → n ≡ length old → length new ≡ length old → take n (new ++ drop (length new) old) ≡ new
lent_back {X} n new old is same =
    ap (λ (l : List X). take n (new ++ l)) (rest_none old (length new) (omega (arith, same)))
    ∙ ap (λ (k : ℕ). take k (new ++ [])) (let e : n ≡ length new = omega (arith, is, same) in e) ∙ take_front new []

pub none_long : {X : Type 0} (xs : List X) (k : ℕ) → drop k xs ≡ [] → length xs ≤ k
none_long [] k e = omega arith
none_long (y ∷ xs) zero e = absurd (cc)
none_long (y ∷ xs) (suc k) e = let h = none_long xs k e in omega arith

-- a place inside
pub at_inside : {X : Type 0} (xs : List X) (k : ℕ) (x : X) → slice_get xs k ≡ Some x → k < length xs
at_inside [] k x e = absurd (cc)
at_inside (y ∷ xs) zero x e = omega arith
at_inside (y ∷ xs) (suc k) x e = let h = at_inside xs k x e in omega arith

pub inside_at : {X : Type 0} (xs : List X) (k : ℕ) → k < length xs → (x : X) × (slice_get xs k ≡ Some x)
inside_at [] k lt = absurd (omega arith)
inside_at (y ∷ xs) zero lt = (y, refl)
inside_at (y ∷ xs) (suc k) lt = inside_at xs k (omega arith)

-- ---- tests

-- numbers that aren't below one are none below it
pub none_below : (w t : ℕ) (l : List ℕ) → list_all (λ m. leb w m) l ≡ true → t < w → list_any (λ m. eqb m t) l ≡ false
none_below w t [] all lt = refl
none_below w t (m ∷ l) all lt = go (leb w m) refl all (λ more. none_below w t l more lt)
  where
    go : (b : Bool) → leb w m ≡ b → (b && list_all (λ k. leb w k) l) ≡ true → (list_all (λ k. leb w k) l ≡ true → list_any (λ k. eqb k t) l ≡ false) → (eqb m t || list_any (λ k. eqb k t) l) ≡ false
    go true le more on =
        let h = leb-true w m le in
        ap (λ d. d || list_any (λ k. eqb k t) l) (ne_eqb m t (λ e. omega (arith, h, e, lt))) ∙ on more
    go false le more on = absurd (cc)

pub none_any : {X : Type 0} (l : List X) → list_any (λ m. false) l ≡ false
none_any [] = refl
none_any (m ∷ l) = none_any l

pub or_first : (a b : Bool) → a ≡ true → (a || b) ≡ true
or_first true b e = refl
or_first false b e = absurd (cc)

pub or_then : (a b : Bool) → b ≡ true → (a || b) ≡ true
or_then true b e = refl
or_then false b e = e

pub both_true : (a b : Bool) → a ≡ true → b ≡ true → (a && b) ≡ true
both_true a b e f = λ i. e i && f i

pub and_not : (a b : Bool) → b ≡ true → (a && not b) ≡ false
and_not true b e = ap not e
and_not false b e = refl

-- ---- two lists, item by item

pub same_more : (xs ys : List ℕ) (i next a b : ℕ) → next ≡ suc i → take i xs ≡ take i ys → Some a ≡ slice_get xs i → Some b ≡ slice_get ys i → a ≡ b → take next xs ≡ take next ys
same_more xs ys i next a b is same one other e = subst (λ (n : ℕ). take n xs ≡ take n ys) (sym is) (front_at xs ys i a same (sym one) (sym other ∙ ap (λ (n : ℕ). Some n) (sym e)))
  where
    front_at : (us vs : List ℕ) (k c : ℕ) → take k us ≡ take k vs → slice_get us k ≡ Some c → slice_get vs k ≡ Some c → take (suc k) us ≡ take (suc k) vs
    front_at us vs k c h x y = (next_of us k c (drop (suc k) us) (rest_at us k c x)).front ∙ ap (λ l. l ++ c ∷ []) h ∙ sym (next_of vs k c (drop (suc k) vs) (rest_at vs k c y)).front

pub differ_at : (xs ys : List ℕ) (i a b : ℕ) → Some a ≡ slice_get xs i → Some b ≡ slice_get ys i → (a ≡ b → ⊥) → xs ≡ ys → ⊥
differ_at xs ys i a b one other ne e = let both : Some a ≡ Some b = one ∙ ap (λ l. slice_get l i) e ∙ sym other in ne (cc)

pub same_all : (xs ys : List ℕ) (i : ℕ) → take i xs ≡ take i ys → length xs ≤ i → length xs ≡ length ys → xs ≡ ys
same_all xs ys i h le size = sym (front_all xs i (rest_none xs i le)) ∙ h ∙ front_all ys i (rest_none ys i (omega (arith, le, size)))
