-- Two names are joined where their rows have the place of an active zone in common.
use Rattle.std.proofs.Common.{◌≡◌, ℕ, zero, suc, ◌+◌, ◌<◌, ◌≤◌, List, [], ◌∷◌, ◌++◌, length, take, Bool, true, false, cond, eqb, ltb, leb, not, ◌&&◌, ◌||◌, Bor, Option, Some, None, slice_get, drop, reverse, find, refl, sym, ◌∙◌, ap, arith}
use Rattle.std.specs.Option.{option_map, option_copied, IsSome}
use Rattle.std.specs.Bool.{OnTrue, OnFalse}
use Rattle.std.proofs.Math.Dec.{eqb-suc-suc, eqb-zero-suc, eqb-suc-zero}
use Rattle.std.proofs.lemmas.List.Folds.{list_any-append}
use Rattle.std.proofs.lemmas.List.{length-take-le, reverse-append}
use Rattle.std.proofs.lemmas.Bool.{ne_eqb, ltb-true, lt-ltb, leb-true, le-leb}
use Rattle.fab_config.specs.declared.Zone.{Zone}
use Rattle.zone_rules.specs.Joined.{contains, has_zone_of, active_set, is_active, joined, next_change}
use Rattle.fab_config.specs.declared.ZoneSet.{ZoneSet}
use Rattle.fab_config.specs.declared.Activation.{Activation}
use Rattle.sorted_lists.specs.Row.{has, IsCommon, HasNone}
use Rattle.zone_rules.specs.Index.{lists}

-- there is an item at each place of a list
pub at_some : {X : Type 0} (xs : List X) (i : ℕ) (o : Option (Bor X)) → option_copied o ≡ slice_get xs i → i < length xs → IsSome o
at_some xs i (Some b) e lt = refl
at_some xs i None e lt = absurd (there xs i (sym e) lt)
  where
    there : {X : Type 0} (xs : List X) (i : ℕ) → slice_get xs i ≡ None → i < length xs → ⊥
    there [] i e lt = omega arith
    there (x ∷ xs) zero e lt = cc
    there (x ∷ xs) (suc i) e lt = there xs i e (omega arith)

-- one item more
pub take_slice : {X : Type 0} (xs : List X) (i : ℕ) (x : X) → slice_get xs i ≡ Some x → take (i + 1) xs ≡ take i xs ++ x ∷ []
take_slice [] i x e = absurd (cc)
take_slice (y ∷ ys) zero x e = let is : y ≡ x = cc in ap (λ z. z ∷ []) is
take_slice (y ∷ ys) (suc i) x e = ap (λ (n : ℕ). take n (y ∷ ys)) (let s : suc i + 1 ≡ suc (i + 1) = omega arith in s) ∙ ap (λ l. y ∷ l) (take_slice ys i x e)

pub eqb_yes : (n : ℕ) → eqb n n ≡ true
eqb_yes n = grind arith

pub or_false : (b : Bool) → (b || false) ≡ b
or_false true = refl
or_false false = refl

pub or_true : (b : Bool) → (b || true) ≡ true
or_true true = refl
or_true false = refl

pub and_false : (b : Bool) → (b && false) ≡ false
and_false true = refl
and_false false = refl

pub contains-push : (x y : ℕ) (ms : List ℕ) → contains x (ms ++ y ∷ []) ≡ (eqb y x || contains x ms)
contains-push x y ms = list_any-append (λ z. eqb z x) ms (y ∷ []) ∙ by (contains x ms) (eqb y x)
  where
    by : (s t : Bool) → (s || (t || false)) ≡ (t || s)
    by true true = refl
    by true false = refl
    by false true = refl
    by false false = refl

-- ---- zones at their places

-- one zone more
lists-push : (x q : ℕ) (zones : List Zone) (z : Zone) → lists x q (zones ++ z ∷ []) ≡ ((eqb (length zones) q && contains x z.members) || lists x q zones)
lists-push x zero [] z = sym (or_false (contains x z.members))
lists-push x (suc q) [] z = ap (λ b. (b && contains x z.members) || false) (sym (eqb-zero-suc q))
lists-push x zero (y ∷ zones) z = ap (λ b. (b && contains x z.members) || contains x y.members) (sym (eqb-suc-zero (length zones)))
lists-push x (suc q) (y ∷ zones) z = lists-push x q zones z ∙ ap (λ b. (b && contains x z.members) || lists x q zones) (sym (eqb-suc-suc (length zones) q))

pub lists_more : (x q i : ℕ) (zones : List Zone) (z : Zone) → i < length zones → slice_get zones i ≡ Some z → lists x q (take (i + 1) zones) ≡ ((eqb i q && contains x z.members) || lists x q (take i zones))
lists_more x q i zones z lt e =
    ap (lists x q) (take_slice zones i z e) ∙ lists-push x q (take i zones) z
    ∙ ap (λ (n : ℕ). (eqb n q && contains x z.members) || lists x q (take i zones)) (length-take-le i zones (omega arith))

-- one member more of a zone
pub row_more : (x q place name m : ℕ) (ms : List ℕ) (i : ℕ) (start before after : Bool) → name ≡ m → slice_get ms i ≡ Some m → before ≡ ((eqb place q && contains x (take i ms)) || start)
    → after ≡ ((eqb place q && eqb name x) || before) → after ≡ ((eqb place q && contains x (take (i + 1) ms)) || start)
row_more x q place name m ms i start before after is e was now =
    now ∙ ap (λ b. (eqb place q && eqb name x) || b) was ∙ ap (λ (n : ℕ). (eqb place q && eqb n x) || ((eqb place q && contains x (take i ms)) || start)) is
    ∙ by (eqb place q) (eqb m x) (contains x (take i ms)) start ∙ ap (λ b. (eqb place q && b) || start) (sym (ap (contains x) (take_slice ms i m e) ∙ contains-push x m (take i ms)))
  where
    by : (p s t u : Bool) → ((p && s) || ((p && t) || u)) ≡ ((p && (s || t)) || u)
    by true true t u = refl
    by true false t u = refl
    by false s t u = refl

-- ---- both names

module _ (active : ℕ → Bool) (x y : ℕ) where
  -- a zone at one place is active and lists both
  has_zone-at : (k q : ℕ) (zones : List Zone) → active (k + q) ≡ true → lists x q zones ≡ true → lists y q zones ≡ true → has_zone_of active x y k zones ≡ true
  has_zone-at k q [] is ex ey = absurd (cc)
  has_zone-at k zero (z ∷ zones) is ex ey =
      let at_k : active k ≡ true = ap active (let e : k ≡ k + 0 = omega arith in e) ∙ is in
      ap (λ b. (b && contains x z.members && contains y z.members) || has_zone_of active x y (k + 1) zones) at_k
      ∙ ap (λ b. (b && contains y z.members) || has_zone_of active x y (k + 1) zones) ex ∙ ap (λ b. b || has_zone_of active x y (k + 1) zones) ey
  has_zone-at k (suc q) (z ∷ zones) is ex ey =
      ap (λ b. (active k && contains x z.members && contains y z.members) || b) (has_zone-at (k + 1) q zones (ap active (let e : k + 1 + q ≡ k + suc q = omega arith in e) ∙ is) ex ey)
      ∙ or_true (active k && contains x z.members && contains y z.members)

  -- no zone at any place
  has_zone-none : (k : ℕ) (zones : List Zone) → ((q : ℕ) → (lists x q zones && (lists y q zones && active (k + q))) ≡ false) → has_zone_of active x y k zones ≡ false
  has_zone-none k [] none = refl
  has_zone-none k (z ∷ zones) none =
      let first : (contains x z.members && (contains y z.members && active k)) ≡ false = ap (λ b. contains x z.members && (contains y z.members && b)) (ap active (let e : k ≡ k + 0 = omega arith in e)) ∙ none 0 in
      let rest : has_zone_of active x y (k + 1) zones ≡ false = has_zone-none (k + 1) zones (λ q. ap (λ b. lists x q zones && (lists y q zones && b)) (ap active (let e : k + 1 + q ≡ k + suc q = omega arith in e)) ∙ none (suc q)) in
      ap (λ b. (active k && contains x z.members && contains y z.members) || b) rest ∙ or_false (active k && contains x z.members && contains y z.members)
      ∙ turned (contains x z.members) (contains y z.members) (active k) ∙ first
    where
      turned : (s t a : Bool) → (a && s && t) ≡ (s && (t && a))
      turned true true true = refl
      turned true true false = refl
      turned true false true = refl
      turned true false false = refl
      turned false true true = refl
      turned false true false = refl
      turned false false true = refl
      turned false false false = refl

  all_parts : (s t u : Bool) → (s && (t && u)) ≡ true → (s ≡ true) × (t ≡ true) × (u ≡ true)
  all_parts true true true e = (refl, refl, refl)
  all_parts true true false e = absurd (cc)
  all_parts true false u e = absurd (cc)
  all_parts false t u e = absurd (cc)

  -- the three rows say it, where the third has the active places of the first
  pub has_zone-rows : (xs ys zs : List ℕ) (zones : List Zone) (r : Bool) → ((q : ℕ) → has xs q ≡ lists x q zones) → ((q : ℕ) → has ys q ≡ lists y q zones)
      → ((q : ℕ) → lists x q zones ≡ true → has zs q ≡ active q) → OnTrue r (IsCommon xs ys zs) → OnFalse r (HasNone xs ys zs) → r ≡ has_zone_of active x y 0 zones
  has_zone-rows xs ys zs zones true of_x of_y of_z (q, all) none =
      let parts = all_parts (has xs q) (has ys q) (has zs q) all in
      let ex : lists x q zones ≡ true = sym (of_x q) ∙ parts.0 in
      sym (has_zone-at 0 q zones (ap active (let e : 0 + q ≡ q = omega arith in e) ∙ sym (of_z q ex) ∙ parts.2) ex (sym (of_y q) ∙ parts.1))
  has_zone-rows xs ys zs zones false of_x of_y of_z common none = sym (has_zone-none 0 zones (λ q. by q (lists x q zones) refl))
    where
      by : (q : ℕ) (b : Bool) → lists x q zones ≡ b → (lists x q zones && (lists y q zones && active (0 + q))) ≡ false
      by q false e = ap (λ b. b && (lists y q zones && active (0 + q))) e
      by q true e =
          ap (λ b. lists x q zones && (lists y q zones && b)) (ap active (let z : 0 + q ≡ q = omega arith in z) ∙ sym (of_z q e))
          ∙ ap (λ b. b && (lists y q zones && has zs q)) (sym (of_x q)) ∙ ap (λ b. has xs q && (b && has zs q)) (sym (of_y q)) ∙ none q

-- ---- joined

module _ (zones : List Zone) (sets : List ZoneSet) (activations : List Activation) (at x y xn yn : ℕ) (x_is : xn ≡ x) (y_is : yn ≡ y) where
  pub joined_same : xn ≡ yn → false ≡ joined zones sets activations at x y
  unfolding joined
  joined_same e = sym (ap (λ b. not b && has_zone_of (is_active sets (active_set activations at)) x y 0 zones) (ap (λ (n : ℕ). eqb n y) (sym x_is ∙ e ∙ y_is) ∙ eqb_yes y))

  pub joined_is : (set : Option ℕ) (xs ys zs : List ℕ) (r : Bool) → (xn ≡ yn → ⊥) → set ≡ active_set activations at → ((q : ℕ) → has xs q ≡ lists xn q zones) → ((q : ℕ) → has ys q ≡ lists yn q zones)
      → ((q : ℕ) → lists xn q zones ≡ true → has zs q ≡ is_active sets set q) → OnTrue r (IsCommon xs ys zs) → OnFalse r (HasNone xs ys zs) → r ≡ joined zones sets activations at x y
  unfolding joined
  joined_is set xs ys zs r ne is of_x of_y of_z common none =
      has_zone-rows (is_active sets set) xn yn xs ys zs zones r of_x of_y of_z common none
      ∙ ap (λ (s : Option ℕ). has_zone_of (is_active sets s) xn yn 0 zones) is
      ∙ ap (λ (n : ℕ). has_zone_of (is_active sets (active_set activations at)) n yn 0 zones) x_is
      ∙ ap (λ (n : ℕ). has_zone_of (is_active sets (active_set activations at)) x n 0 zones) y_is
      ∙ sym (ap (λ b. not b && has_zone_of (is_active sets (active_set activations at)) x y 0 zones) (ne_eqb x y (λ h. ne (x_is ∙ h ∙ sym y_is))))

-- ---- activations

ltb_no : (m n : ℕ) → n ≤ m → ltb m n ≡ false
ltb_no m n le = by (ltb m n) refl
  where
    by : (t : Bool) → ltb m n ≡ t → t ≡ false
    by true e = absurd (let h : m < n = ltb-true m n e in omega (arith, h))
    by false e = refl

leb_no : (m n : ℕ) → n < m → leb m n ≡ false
leb_no m n lt = by (leb m n) refl
  where
    by : (t : Bool) → leb m n ≡ t → t ≡ false
    by true e = absurd (let h : m ≤ n = leb-true m n e in omega (arith, h))
    by false e = refl

drop_slice : {X : Type 0} (xs : List X) (i : ℕ) (x : X) → slice_get xs i ≡ Some x → drop i xs ≡ x ∷ drop (i + 1) xs
drop_slice [] i x e = absurd (cc)
drop_slice (y ∷ ys) zero x e = let is : y ≡ x = cc in ap (λ z. z ∷ ys) is
drop_slice (y ∷ ys) (suc i) x e = drop_slice ys i x e ∙ ap (λ (n : ℕ). x ∷ drop n (y ∷ ys)) (let s : suc (i + 1) ≡ suc i + 1 = omega arith in s)

module _ (activations : List Activation) (i : ℕ) (a : Activation) (there : slice_get activations i ≡ Some a) (m x y : ℕ) (y_is : y ≡ a.moment) (x_is : x ≡ m) where
  pub change_here : x < y → next_change (drop i activations) m ≡ next_change activations m → Some a.moment ≡ next_change activations m
  change_here lt on =
      sym (ap (λ l. next_change l m) (drop_slice activations i a there) ∙ ap (λ b. option_map (λ (z : Activation). z.moment) (cond b (Some a) (find (λ (z : Activation). ltb m z.moment) (drop (i + 1) activations)))) (lt-ltb m a.moment (omega (arith, y_is, x_is)))) ∙ on

  pub change_later : y ≤ x → next_change (drop i activations) m ≡ next_change activations m → next_change (drop (i + 1) activations) m ≡ next_change activations m
  change_later le on =
      sym (ap (λ l. next_change l m) (drop_slice activations i a there) ∙ ap (λ b. option_map (λ (z : Activation). z.moment) (cond b (Some a) (find (λ (z : Activation). ltb m z.moment) (drop (i + 1) activations)))) (ltb_no m a.moment (omega (arith, y_is, x_is)))) ∙ on

  turned : reverse (take (i + 1) activations) ≡ a ∷ reverse (take i activations)
  turned = ap reverse (take_slice activations i a there) ∙ reverse-append (take i activations) (a ∷ [])

  pub active_here : y ≤ x → Some a.set ≡ active_set (take (i + 1) activations) m
  active_here le = sym (ap (λ l. option_map (λ (z : Activation). z.set) (find (λ (z : Activation). leb z.moment m) l)) turned ∙ ap (λ b. option_map (λ (z : Activation). z.set) (cond b (Some a) (find (λ (z : Activation). leb z.moment m) (reverse (take i activations))))) (le-leb a.moment m (omega (arith, y_is, x_is))))

  pub active_before : x < y → active_set (take i activations) m ≡ active_set (take (i + 1) activations) m
  active_before lt = sym (ap (λ l. option_map (λ (z : Activation). z.set) (find (λ (z : Activation). leb z.moment m) l)) turned ∙ ap (λ b. option_map (λ (z : Activation). z.set) (cond b (Some a) (find (λ (z : Activation). leb z.moment m) (reverse (take i activations))))) (leb_no a.moment m (omega (arith, y_is, x_is))))
