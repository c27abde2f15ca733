-- What a look-up says of its list, and when ENodes are the same.
use Rattle.std.proofs.Common.{◌≡◌, ℕ, ◌+◌, ◌<◌, ◌==◌, ◌||◌, Bool, true, false, cond, List, [], ◌∷◌, filter, find, if◌then◌else◌, option_and_then, Option, Some, None, IsSome, refl, sym, ap, subst, arith}
use Rattle.std.proofs.lemmas.Bool.Decides.{nat_tests}
use Rattle.std.specs.Cmp.{both_ways}
use Rattle.std.specs.List.{All, list_any}
use Rattle.std.proofs.lemmas.List.Elements.{All-cons, All-nil}
use Rattle.fab_base.proofs.KeyedLemmas.{AscendFrom-filter, item_at-below}
use Rattle.fab_base.proofs.SamenessLemmas.{found_passes}
use Rattle.fab_base.specs.Fabric.{same_enode}
use Rattle.fab_base.specs.Keyed.{item_at, AscendFrom}
use Rattle.fab_base.specs.declared.values.Enode.{Enode}
use Rattle.keepalive_clock.proofs.VoiceLemmas.{voices_same}
use Rattle.keepalive_clock.specs.declared.voice.Voice.TheVariants.{Node}

pub true_false : true ≡ false → ⊥
true_false e = cc

-- ---- numbers

pub equal : (x y : ℕ) → x == y ≡ true → x ≡ y
equal x y e = grind (arith, nat_tests)

pub same : (x : ℕ) → x == x ≡ true
same x = grind (arith, nat_tests)

pub turned : (x y : ℕ) → x == y ≡ y == x
turned x y = grind (arith, nat_tests)

-- ---- what is found

pub some_found : {X : Type 0} (o : Option X) → IsSome o → (x : X) × (o ≡ Some x)
some_found None h = absurd (true_false (sym h))
some_found (Some x) h = (x, refl)

module _ {X : Type 0} (key : X → ℕ) where
  pub item_at-key : (a : ℕ) (xs : List X) (x : X) → item_at key a xs ≡ Some x → key x ≡ a
  item_at-key a xs x e = equal (key x) a (found_passes (λ y. key y == a) x xs e)

  -- what is found behind the first of ascending items is found with it
  behind : (k : ℕ) (x : X) (xs : List X) → AscendFrom key k (x ∷ xs) → (y : X) → item_at key (key y) xs ≡ Some y → item_at key (key y) (x ∷ xs) ≡ Some y
  behind k x xs h y e = grind (arith, nat_tests, λ (lt : key y < key x + 1). item_at-below key (key y) (key x + 1) xs h.1 lt)

  here : (x : X) (xs : List X) → item_at key (key x) (x ∷ xs) ≡ Some x
  here x xs = ap (λ b. cond b (Some x) (item_at key (key x) xs)) (same (key x))

  -- of ascending items, one that passes is found by its key
  pub any-item_at : (p : X → Bool) (k : ℕ) (xs : List X) → AscendFrom key k xs → list_any p xs ≡ true → (x : X) × (item_at key (key x) xs ≡ Some x) × (p x ≡ true)
  any-item_at p k [] h e = absurd (true_false (sym e))
  any-item_at p k (x ∷ xs) h e = go (p x) refl e (any-item_at p (key x + 1) xs h.1)
    where
      go : (b : Bool) → p x ≡ b → b || list_any p xs ≡ true → (list_any p xs ≡ true → (y : X) × (item_at key (key y) xs ≡ Some y) × (p y ≡ true)) → (y : X) × (item_at key (key y) (x ∷ xs) ≡ Some y) × (p y ≡ true)
      go true t i ih = (x, here x xs, t)
      go false t i ih = let f = ih i in (f.0, behind k x xs h f.0 f.1, f.2)

  -- and so is the first that passes
  pub find-item_at : (p : X → Bool) (k : ℕ) (xs : List X) (x : X) → AscendFrom key k xs → find p xs ≡ Some x → item_at key (key x) xs ≡ Some x
  find-item_at p k [] x h e = cc
  find-item_at p k (y ∷ xs) x h e = grind (arith, nat_tests, λ (later : find p xs ≡ Some x). behind k y xs h x (find-item_at p (key y + 1) xs x h.1 later))

  -- what holds of all ascending items that are found holds of all
  pub All-item_at : (P : X → Type 0) (k : ℕ) (xs : List X) → AscendFrom key k xs → ((x : X) → item_at key (key x) xs ≡ Some x → P x) → All P xs
  All-item_at P k [] h each = All-nil P
  All-item_at P k (x ∷ xs) h each = All-cons P x xs (each x (here x xs)) (All-item_at P (key x + 1) xs h.1 (λ y e. each y (behind k x xs h y e)))

-- ---- ENodes

pub enode_refl : (x : Enode) → same_enode x x ≡ true
enode_refl x = voices_same.self (Node x)

pub enode_same : (x y : Enode) → same_enode x y ≡ true → x ≡ y
enode_same x y e = cc (voices_same.equal (Node x) (Node y) e)

pub enode_turned : (x y : Enode) → same_enode x y ≡ same_enode y x
enode_turned x y = both_ways (same_enode x y) (same_enode y x) (back x y) (back y x)
  where
    back : (x y : Enode) → same_enode x y ≡ true → same_enode y x ≡ true
    back x y e = subst (λ z. same_enode z x ≡ true) (enode_same x y e) (enode_refl x)

-- ---- what a filter leaves

module _ {X : Type 0} (key : X → ℕ) where
  abbrev pub kept : (X → Bool) → X → Option X
  kept q x = if q x then Some x else None

  -- what a filter leaves of the item at a key
  pub filtered : (q : X → Bool) (a k : ℕ) (xs : List X) → AscendFrom key k xs → item_at key a (filter q xs) ≡ option_and_then (kept q) (item_at key a xs)
  filtered q a k [] h = refl
  filtered q a k (x ∷ xs) h =
      grind (arith, nat_tests, filtered q a (key x + 1) xs h.1, λ (lt : a < key x + 1). item_at-below key a (key x + 1) (filter q xs) (AscendFrom-filter key q (key x + 1) xs h.1) lt)

  -- what is left is there
  pub was_there : (q : X → Bool) (a k : ℕ) (xs : List X) (x : X) → AscendFrom key k xs → item_at key a (filter q xs) ≡ Some x → item_at key a xs ≡ Some x
  was_there q a k [] x h e = cc
  was_there q a k (y ∷ xs) x h e =
      grind (
        arith,
        nat_tests,
        λ (later : item_at key a (filter q xs) ≡ Some x). was_there q a (key y + 1) xs x h.1 later,
        λ (lt : a < key y + 1). item_at-below key a (key y + 1) (filter q xs) (AscendFrom-filter key q (key y + 1) xs h.1) lt,
      )
