-- An index stays one, when a record and its entry are taken out, put in, or changed together.
use Rattle.std.proofs.Common.{◌≡◌, ◌≢◌, ℕ, suc, ◌+◌, ◌<◌, ◌≤◌, ◌==◌, Bool, true, false, cond, if◌then◌else◌, List, [], ◌∷◌, length, Option, Some, None, is_some, option_map, slice_get, ◌-◌, nat_le, find, filter, ◌⊎◌, inl, inr, refl, sym, ◌∙◌, ap, subst, arith}
use Rattle.std.proofs.lemmas.Bool.{cases_lt}
use Rattle.std.proofs.lemmas.Bool.Decides.{nat_tests}
use mathlib.Core.Bool.{false≢true}
use Rattle.std.specs.List.{All}
use Rattle.std.proofs.lemmas.List.Elements.{All-head, All-tail}
use Rattle.std.proofs.lemmas.List.{length-map}
use Rattle.fab_base.specs.Keyed.{item_at, AscendFrom, added, without, changed_if, changed, KeysDiffer}
use Rattle.fab_base.proofs.KeyedLemmas as keyed
use Rattle.fab_base.proofs.SamenessLemmas.{found_passes, length-all_but, sameness_of_numbers}
use Rattle.sorted_lists.specs.Index.{IsIndex}

pub none_some : {X : Type 0} (x : X) → None ≡ Some x → ⊥
none_some x e = cc

pub some_same : {X : Type 0} (x y : X) → Some x ≡ Some y → x ≡ y
some_same x y e = cc

pub equal : (m n : ℕ) → (m == n) ≡ true → m ≡ n
equal m n e = grind (arith, nat_tests)

pub unequal : (m n : ℕ) → (m == n) ≡ false → m ≢ n
unequal m n e = grind (arith, nat_tests)

pub differs : (m n : ℕ) → m ≢ n → (m == n) ≡ false
differs m n ne = grind (arith, nat_tests)

same : (n : ℕ) → (n == n) ≡ true
same n = grind (arith, nat_tests)

module _ {X : Type 0} (key : X → ℕ) where
  -- the item at a key has it
  pub key_found : (n : ℕ) (x : X) (xs : List X) → item_at key n xs ≡ Some x → key x ≡ n
  key_found n x xs found = equal (key x) n (found_passes (λ y. key y == n) x xs found)

  pub differ-ascending : (k : ℕ) (xs : List X) → AscendFrom key k xs → KeysDiffer key ◌==◌ xs
  differ-ascending k [] ascend = tt
  differ-ascending k (x ∷ xs) ascend = (keyed.item_at-below key (key x) (key x + 1) xs ascend.1 (omega arith), differ-ascending (key x + 1) xs ascend.1)

  -- one that was there less
  pub length-gone : (n : ℕ) (x : X) (xs : List X) → AscendFrom key 0 xs → item_at key n xs ≡ Some x → length (without key n xs) + 1 ≡ length xs
  length-gone n x xs ascend there =
      length-all_but key ◌==◌ sameness_of_numbers n xs (differ-ascending 0 xs ascend)
      ∙ ap (λ (o : Option X). if is_some o then length xs else length xs + 1) there

  -- what is found with one less was found, and is another
  pub found-without : (a n : ℕ) (x : X) (xs : List X) → item_at key n (without key a xs) ≡ Some x → (a ≢ n) × (item_at key n xs ≡ Some x)
  found-without a n x xs found = go (a == n) refl (sym (keyed.item_at-without key a n xs) ∙ found)
    where
      go : (b : Bool) → (a == n) ≡ b → (if b then None else item_at key n xs) ≡ Some x → (a ≢ n) × (item_at key n xs ≡ Some x)
      go true e f = absurd (none_some x f)
      go false e f = (unequal a n e, f)

  pub kept-without : (a n : ℕ) (xs : List X) → a ≢ n → item_at key n (without key a xs) ≡ item_at key n xs
  kept-without a n xs ne = keyed.item_at-without key a n xs ∙ ap (λ b. if b then None else item_at key n xs) (differs a n ne)

  -- what is found with one more is that one, or was found
  pub found-added : (y : X) (n : ℕ) (x : X) (xs : List X) → item_at key n (added key y xs) ≡ Some x → ((key y ≡ n) × (y ≡ x)) ⊎ (item_at key n xs ≡ Some x)
  found-added y n x xs found = go (key y == n) refl (sym (keyed.item_at-added key y xs n) ∙ found)
    where
      go : (b : Bool) → (key y == n) ≡ b → (if b then Some y else item_at key n xs) ≡ Some x → ((key y ≡ n) × (y ≡ x)) ⊎ (item_at key n xs ≡ Some x)
      go true e f = inl (equal (key y) n e, some_same y x f)
      go false e f = inr f

  pub here-added : (y : X) (xs : List X) → item_at key (key y) (added key y xs) ≡ Some y
  here-added y xs = keyed.item_at-added key y xs (key y) ∙ ap (λ b. if b then Some y else item_at key (key y) xs) (same (key y))

  -- the others stay, where it is new
  pub kept-added : (y : X) (n : ℕ) (x : X) (xs : List X) → item_at key (key y) xs ≡ None → item_at key n xs ≡ Some x → item_at key n (added key y xs) ≡ Some x
  kept-added y n x xs absent found = go (key y == n) refl
    where
      go : (b : Bool) → (key y == n) ≡ b → item_at key n (added key y xs) ≡ Some x
      go true e = absurd (none_some x (sym absent ∙ ap (λ m. item_at key m xs) (equal (key y) n e) ∙ found))
      go false e = keyed.item_at-added key y xs n ∙ ap (λ b. if b then Some y else item_at key n xs) e ∙ found

module _ {X D : Type 0} (key : X → ℕ) (rank : D → ℕ) (entry : X → D) where
  -- a record is taken out, and its entry
  pub IsIndex-without : (a : ℕ) (x0 : X) (xs : List X) (ds : List D) → AscendFrom key 0 xs → IsIndex key rank entry xs ds → item_at key a xs ≡ Some x0 →
      IsIndex key rank entry (without key a xs) (without rank (rank (entry x0)) ds)
  IsIndex-without a x0 xs ds ascend index there = record {
    ascending = keyed.AscendFrom-filter rank _ 0 ds index.ascending;
    told = told;
    made = made;
    apart = λ n m x y f g e. index.apart n m x y (found-without key a n x xs f).1 (found-without key a m y xs g).1 e;
    count = omega (arith, length-gone key a x0 xs ascend there, length-gone rank _ _ ds index.ascending (index.told a x0 there), index.count);
  }
    where
      told : (n : ℕ) (x : X) → item_at key n (without key a xs) ≡ Some x → item_at rank (rank (entry x)) (without rank (rank (entry x0)) ds) ≡ Some (entry x)
      told n x found =
          let old = found-without key a n x xs found in
          kept-without rank (rank (entry x0)) (rank (entry x)) ds (λ e. old.0 (index.apart a n x0 x there old.1 e)) ∙ index.told n x old.1

      made : (k : ℕ) (d : D) → item_at rank k (without rank (rank (entry x0)) ds) ≡ Some d → (n : ℕ) × (x : X) × (item_at key n (without key a xs) ≡ Some x) × (entry x ≡ d)
      made k d found =
          let old = found-without rank (rank (entry x0)) k d ds found in
          let (n, x, f, e) = index.made k d old.1 in
          let other : a ≢ n = λ s. old.0 (
          ap (λ z. rank (entry z)) (some_same x0 x (sym there ∙ ap (λ m. item_at key m xs) s ∙ f)) ∙ ap rank e ∙ key_found rank k d ds old.1) in
          (n, x, kept-without key a n xs other ∙ f, e)

  -- no record has an entry of this rank
  abbrev pub IsFresh : X → List X → Type 0
  IsFresh y xs = (n : ℕ) (x : X) → item_at key n xs ≡ Some x → rank (entry x) ≢ rank (entry y)

  pub absent_entry : (y : X) (xs : List X) (ds : List D) → IsIndex key rank entry xs ds → IsFresh y xs → item_at rank (rank (entry y)) ds ≡ None
  absent_entry y xs ds index fresh = go (item_at rank (rank (entry y)) ds) refl
    where
      go : (o : Option D) → item_at rank (rank (entry y)) ds ≡ o → o ≡ None
      go None e = refl
      go (Some d) e =
          let (n, x, f, s) = index.made (rank (entry y)) d e in
          absurd (fresh n x f (ap rank s ∙ key_found rank (rank (entry y)) d ds e))

  -- a record is put in, and its entry
  pub IsIndex-added : (y : X) (xs : List X) (ds : List D) → AscendFrom key 0 xs → IsIndex key rank entry xs ds → item_at key (key y) xs ≡ None → IsFresh y xs →
      IsIndex key rank entry (added key y xs) (added rank (entry y) ds)
  IsIndex-added y xs ds ascend index absent fresh = record {
    ascending = keyed.AscendFrom-added rank (entry y) 0 ds index.ascending (omega arith);
    told = λ n x found. told n x (found-added key y n x xs found);
    made = λ k d found. made k d (found-added rank (entry y) k d ds found);
    apart = λ n m x z f g e. apart n m x z (found-added key y n x xs f) (found-added key y m z xs g) e;
    count = omega (arith, index.count, keyed.length-added key y 0 xs ascend absent, keyed.length-added rank (entry y) 0 ds index.ascending none);
  }
    where
      none : item_at rank (rank (entry y)) ds ≡ None
      none = absent_entry y xs ds index fresh

      told : (n : ℕ) (x : X) → ((key y ≡ n) × (y ≡ x)) ⊎ (item_at key n xs ≡ Some x) → item_at rank (rank (entry x)) (added rank (entry y) ds) ≡ Some (entry x)
      told n x (inl e) = subst (λ z. item_at rank (rank (entry z)) (added rank (entry y) ds) ≡ Some (entry z)) e.1 (here-added rank (entry y) ds)
      told n x (inr found) = kept-added rank (entry y) (rank (entry x)) (entry x) ds none (index.told n x found)

      made : (k : ℕ) (d : D) → ((rank (entry y) ≡ k) × (entry y ≡ d)) ⊎ (item_at rank k ds ≡ Some d) → (n : ℕ) × (x : X) × (item_at key n (added key y xs) ≡ Some x) × (entry x ≡ d)
      made k d (inl e) = (key y, y, here-added key y xs, e.1)
      made k d (inr found) =
          let (n, x, f, s) = index.made k d found in
          (n, x, kept-added key y n x xs absent f, s)

      apart : (n m : ℕ) (x z : X) → ((key y ≡ n) × (y ≡ x)) ⊎ (item_at key n xs ≡ Some x) → ((key y ≡ m) × (y ≡ z)) ⊎ (item_at key m xs ≡ Some z) → rank (entry x) ≡ rank (entry z) → n ≡ m
      apart n m x z (inl e) (inl f) s = sym e.0 ∙ f.0
      apart n m x z (inl e) (inr f) s = absurd (fresh m z f (sym (ap (λ w. rank (entry w)) e.1 ∙ s)))
      apart n m x z (inr e) (inl f) s = absurd (fresh n x e (s ∙ sym (ap (λ w. rank (entry w)) f.1)))
      apart n m x z (inr e) (inr f) s = index.apart n m x z e f s

  -- a record changes, and its entry doesn't
  pub IsIndex-changed : (change : X → X) → ((x : X) → key (change x) ≡ key x) → ((x : X) → entry (change x) ≡ entry x) → (a : ℕ) (xs : List X) (ds : List D) → IsIndex key rank entry xs ds →
      IsIndex key rank entry (changed key a change xs) ds
  IsIndex-changed change keeps stays a xs ds index = record {
    ascending = index.ascending;
    told = λ n x found. told n x (item_at key n xs) refl (sym (found_changed n) ∙ found);
    made = λ k d found. made (index.made k d found);
    apart = λ n m x y f g e. apart n m x y (item_at key n xs) refl (sym (found_changed n) ∙ f) (item_at key m xs) refl (sym (found_changed m) ∙ g) e;
    count = index.count ∙ sym (length-map xs (changed_if key a change));
  }
    where
      found_changed : (n : ℕ) → item_at key n (changed key a change xs) ≡ option_map (changed_if key a change) (item_at key n xs)
      found_changed n = keyed.item_at-changed key change keeps a n xs

      entry_if : (x : X) → entry (changed_if key a change x) ≡ entry x
      entry_if x = go (key x == a)
        where
          go : (b : Bool) → entry (if b then change x else x) ≡ entry x
          go true = stays x
          go false = refl

      told : (n : ℕ) (x : X) (o : Option X) → item_at key n xs ≡ o → option_map (changed_if key a change) o ≡ Some x → item_at rank (rank (entry x)) ds ≡ Some (entry x)
      told n x None e f = absurd (none_some x f)
      told n x (Some w) e f = subst (λ d. item_at rank (rank d) ds ≡ Some d) (sym (entry_if w) ∙ ap entry (some_same _ x f)) (index.told n w e)

      made : {d : D} → (n : ℕ) × (x : X) × (item_at key n xs ≡ Some x) × (entry x ≡ d) → (n : ℕ) × (x : X) × (item_at key n (changed key a change xs) ≡ Some x) × (entry x ≡ d)
      made (n, x, f, e) = (n, changed_if key a change x, found_changed n ∙ ap (option_map (changed_if key a change)) f, entry_if x ∙ e)

      apart : (n m : ℕ) (x y : X) (o : Option X) → item_at key n xs ≡ o → option_map (changed_if key a change) o ≡ Some x → (p : Option X) → item_at key m xs ≡ p → option_map (changed_if key a change) p ≡ Some y
          → rank (entry x) ≡ rank (entry y) → n ≡ m
      apart n m x y None e f p g h s = absurd (none_some x f)
      apart n m x y (Some v) e f None g h s = absurd (none_some y h)
      apart n m x y (Some v) e f (Some w) g h s = index.apart n m v w e g (ap rank (sym (entry_if v) ∙ ap entry (some_same _ x f)) ∙ s ∙ ap rank (sym (sym (entry_if w) ∙ ap entry (some_same _ y h))))

-- ---- the last of an ascending list

last_behind : {X : Type 0} (z w : X) (xs : List X) → slice_get (z ∷ w ∷ xs) (length (z ∷ w ∷ xs) - 1) ≡ slice_get (w ∷ xs) (length (w ∷ xs) - 1)
last_behind z w xs = ap (λ (n : ℕ). slice_get (z ∷ w ∷ xs) n) (let e : length (z ∷ w ∷ xs) - 1 ≡ suc (length (w ∷ xs) - 1) = omega arith in e)

module _ {X : Type 0} (key : X → ℕ) where
  -- no other item is found above it
  pub below_last : (k : ℕ) (xs : List X) (x : X) → AscendFrom key k xs → slice_get xs (length xs - 1) ≡ Some x → (n : ℕ) (y : X) → item_at key n xs ≡ Some y → key y ≤ key x
  below_last k [] x ascend last n y found = absurd (none_some y found)
  below_last k (z ∷ []) x ascend last n y found = go (key z == n) found
    where
      go : (b : Bool) → cond b (Some z) None ≡ Some y → key y ≤ key x
      go true f = let e : y ≡ x = sym (some_same z y f) ∙ some_same z x last in omega (arith, ap key e)
      go false f = absurd (none_some y f)
  below_last k (z ∷ w ∷ xs) x ascend last n y found = go (key z == n) found (below_last (key z + 1) (w ∷ xs) x ascend.1 (sym (last_behind z w xs) ∙ last))
    where
      go : (b : Bool) → cond b (Some z) (item_at key n (w ∷ xs)) ≡ Some y → ((m : ℕ) (v : X) → item_at key m (w ∷ xs) ≡ Some v → key v ≤ key x) → key y ≤ key x
      go true f rest = omega (arith, ap key (some_same z y f), ascend.1.0, rest (key w) w (ap (λ b. cond b (Some w) (item_at key (key w) xs)) (same (key w))))
      go false f rest = rest n y f

  -- it is found
  pub last_found : (k : ℕ) (xs : List X) (x : X) → AscendFrom key k xs → slice_get xs (length xs - 1) ≡ Some x → item_at key (key x) xs ≡ Some x
  last_found k [] x ascend last = absurd (none_some x last)
  last_found k (z ∷ []) x ascend last = subst (λ v. item_at key (key v) (z ∷ []) ≡ Some v) (some_same z x last) (ap (λ b. cond b (Some z) None) (same (key z)))
  last_found k (z ∷ w ∷ xs) x ascend last =
      let behind = sym (last_behind z w xs) ∙ last in
      let rest = last_found (key z + 1) (w ∷ xs) x ascend.1 behind in
      let top = below_last (key z + 1) (w ∷ xs) x ascend.1 behind (key w) w (ap (λ b. cond b (Some w) (item_at key (key w) xs)) (same (key w))) in
      ap (λ b. cond b (Some z) (item_at key (key x) (w ∷ xs))) (differs (key z) (key x) (λ e. absurd (omega (arith, e, top, ascend.1.0)))) ∙ rest

-- ---- what holds of all items

module _ {X : Type 0} (P : X → Type 0) where
  -- holds of the one that is found
  pub All-found : (p : X → Bool) (xs : List X) (x : X) → All P xs → find p xs ≡ Some x → P x
  All-found p [] x all found = absurd (none_some x found)
  All-found p (y ∷ ys) x all found = go (p y) found (All-found p ys x (All-tail P y ys all))
    where
      go : (b : Bool) → cond b (Some y) (find p ys) ≡ Some x → (find p ys ≡ Some x → P x) → P x
      go true f rest = subst P (some_same y x f) (All-head P y ys all)
      go false f rest = rest f

  -- tests that answer alike where it holds find the same, and keep the same
  pub find-alike : (p q : X → Bool) (xs : List X) → All P xs → ((x : X) → P x → p x ≡ q x) → find p xs ≡ find q xs
  find-alike p q [] all alike = refl
  find-alike p q (y ∷ ys) all alike =
      ap (λ b. cond b (Some y) (find p ys)) (alike y (All-head P y ys all)) ∙ ap (λ (o : Option X). cond (q y) (Some y) o) (find-alike p q ys (All-tail P y ys all) alike)

  pub filter-alike : (p q : X → Bool) (xs : List X) → All P xs → ((x : X) → P x → p x ≡ q x) → filter p xs ≡ filter q xs
  filter-alike p q [] all alike = refl
  filter-alike p q (y ∷ ys) all alike =
      ap (λ b. cond b (y ∷ filter p ys) (filter p ys)) (alike y (All-head P y ys all)) ∙ ap (λ (l : List X). cond (q y) (y ∷ l) l) (filter-alike p q ys (All-tail P y ys all) alike)

-- ---- the first from a bound on

module _ {X : Type 0} (key : X → ℕ) where
  -- what a test finds is found by its key
  pub find_by_key : (p : X → Bool) (k : ℕ) (xs : List X) (x : X) → AscendFrom key k xs → find p xs ≡ Some x → item_at key (key x) xs ≡ Some x
  find_by_key p k [] x ascend found = absurd (none_some x found)
  find_by_key p k (y ∷ ys) x ascend found = go (p y) found (find_by_key p (key y + 1) ys x ascend.1)
    where
      go : (b : Bool) → cond b (Some y) (find p ys) ≡ Some x → (find p ys ≡ Some x → item_at key (key x) ys ≡ Some x) → item_at key (key x) (y ∷ ys) ≡ Some x
      go true f others = subst (λ z. item_at key (key z) (y ∷ ys) ≡ Some z) (some_same y x f) (ap (λ b. cond b (Some y) (item_at key (key y) ys)) (same (key y)))
      go false f others = by (key y == key x) refl (others f)
        where
          by : (b : Bool) → (key y == key x) ≡ b → item_at key (key x) ys ≡ Some x → item_at key (key x) (y ∷ ys) ≡ Some x
          by true e later = absurd (none_some x (sym (keyed.item_at-below key (key x) (key y + 1) ys ascend.1 (omega (arith, equal (key y) (key x) e))) ∙ later))
          by false e later = ap (λ b. cond b (Some y) (item_at key (key x) ys)) e ∙ later

  -- a key that is found isn't below the bound of its list
  pub found-from : (k n : ℕ) (xs : List X) (y : X) → AscendFrom key k xs → item_at key n xs ≡ Some y → k ≤ n
  found-from k n xs y ascend found = by (cases_lt n k)
    where
      by : (n < k) ⊎ (k ≤ n) → k ≤ n
      by (inl lt) = absurd (none_some y (sym (keyed.item_at-below key n k xs ascend lt) ∙ found))
      by (inr le) = le

  -- no other item from the bound on is below the first
  pub first_least : (from k : ℕ) (xs : List X) (x : X) → AscendFrom key k xs → find (λ z. nat_le from (key z)) xs ≡ Some x → (n : ℕ) (y : X) → item_at key n xs ≡ Some y → from ≤ n → key x ≤ n
  first_least from k [] x ascend first n y found le = absurd (none_some y found)
  first_least from k (z ∷ xs) x ascend first n y found le = go (nat_le from (key z)) refl first (λ f g. first_least from (key z + 1) xs x ascend.1 f n y g le)
    where
      go : (b : Bool) → nat_le from (key z) ≡ b → cond b (Some z) (find (λ w. nat_le from (key w)) xs) ≡ Some x → (find (λ w. nat_le from (key w)) xs ≡ Some x → item_at key n xs ≡ Some y → key x ≤ n) → key x ≤ n
      go true here f rest = by (key z == n) refl found
        where
          by : (b : Bool) → (key z == n) ≡ b → cond b (Some z) (item_at key n xs) ≡ Some y → key x ≤ n
          by true e g = omega (arith, ap key (some_same z x f), equal (key z) n e)
          by false e g = omega (arith, ap key (some_same z x f), found-from (key z + 1) n xs y ascend.1 g)
      go false below f rest = by (key z == n) refl found (rest f)
        where
          low : key z < from
          low = grind (arith, nat_tests)

          by : (b : Bool) → (key z == n) ≡ b → cond b (Some z) (item_at key n xs) ≡ Some y → (item_at key n xs ≡ Some y → key x ≤ n) → key x ≤ n
          by true e g later = absurd (omega (arith, equal (key z) n e, low, le))
          by false e g later = later g

  -- where none is found from the bound on, each is below it
  pub none_from : (from : ℕ) (xs : List X) → find (λ z. nat_le from (key z)) xs ≡ None → (n : ℕ) (y : X) → item_at key n xs ≡ Some y → n < from
  none_from from [] none n y found = absurd (none_some y found)
  none_from from (z ∷ xs) none n y found = go (nat_le from (key z)) refl none (λ f g. none_from from xs f n y g)
    where
      go : (b : Bool) → nat_le from (key z) ≡ b → cond b (Some z) (find (λ w. nat_le from (key w)) xs) ≡ None → (find (λ w. nat_le from (key w)) xs ≡ None → item_at key n xs ≡ Some y → n < from) → n < from
      go true here f rest = absurd (none_some z (sym f))
      go false below f rest = by (key z == n) refl found (rest f)
        where
          low : key z < from
          low = grind (arith, nat_tests)

          by : (b : Bool) → (key z == n) ≡ b → cond b (Some z) (item_at key n xs) ≡ Some y → (item_at key n xs ≡ Some y → n < from) → n < from
          by true e g later = omega (arith, equal (key z) n e, low)
          by false e g later = later g

-- ---- what a test finds, by keys

module _ {X : Type 0} (key : X → ℕ) (p : X → Bool) where
  later_found : (k : ℕ) (z : X) (xs : List X) (n : ℕ) (y : X) → AscendFrom key k (z ∷ xs) → item_at key n xs ≡ Some y → item_at key n (z ∷ xs) ≡ Some y
  later_found k z xs n y ascend found =
      ap (λ b. cond b (Some z) (item_at key n xs)) (differs (key z) n (λ e. absurd (omega (arith, e, found-from key (key z + 1) n xs y ascend.1 found)))) ∙ found

  first_found : (z : X) (xs : List X) → item_at key (key z) (z ∷ xs) ≡ Some z
  first_found z xs = ap (λ b. cond b (Some z) (item_at key (key z) xs)) (same (key z))

  -- the item that passes and is below each other that passes
  pub find_least : (k : ℕ) (xs : List X) (x : X) → AscendFrom key k xs → item_at key (key x) xs ≡ Some x → p x ≡ true → ((n : ℕ) (y : X) → item_at key n xs ≡ Some y → p y ≡ true → key x ≤ n) → find p xs ≡ Some x
  find_least k [] x ascend there passes least = absurd (none_some x there)
  find_least k (z ∷ xs) x ascend there passes least =
      go (p z) refl (key z == key x) refl there (λ t. find_least (key z + 1) xs x ascend.1 t passes (λ n y found. least n y (later_found k z xs n y ascend found)))
    where
      go : (b : Bool) → p z ≡ b → (c : Bool) → (key z == key x) ≡ c → cond c (Some z) (item_at key (key x) xs) ≡ Some x → (item_at key (key x) xs ≡ Some x → find p xs ≡ Some x) → cond b (Some z) (find p xs) ≡ Some x
      go true this true e t rest = t
      go true this false e t rest = absurd (omega (arith, least (key z) z (first_found z xs) this, found-from key (key z + 1) (key x) xs x ascend.1 t))
      go false other true e t rest = absurd (false≢true (sym other ∙ ap p (some_same z x t) ∙ passes))
      go false other false e t rest = rest t

  -- where no item passes
  pub find_nothing : (k : ℕ) (xs : List X) → AscendFrom key k xs → ((n : ℕ) (y : X) → item_at key n xs ≡ Some y → p y ≡ false) → find p xs ≡ None
  find_nothing k [] ascend fails = refl
  find_nothing k (z ∷ xs) ascend fails =
      ap (λ b. cond b (Some z) (find p xs)) (fails (key z) z (first_found z xs)) ∙ find_nothing (key z + 1) xs ascend.1 (λ n y found. fails n y (later_found k z xs n y ascend found))

  pub none_passes : (xs : List X) (n : ℕ) (y : X) → find p xs ≡ None → item_at key n xs ≡ Some y → p y ≡ false
  none_passes [] n y none found = absurd (none_some y found)
  none_passes (z ∷ xs) n y none found = go (p z) refl none (key z == n) found (none_passes xs n y)
    where
      go : (b : Bool) → p z ≡ b → cond b (Some z) (find p xs) ≡ None → (c : Bool) → cond c (Some z) (item_at key n xs) ≡ Some y → (find p xs ≡ None → item_at key n xs ≡ Some y → p y ≡ false) → p y ≡ false
      go true e f c g rest = absurd (none_some z (sym f))
      go false e f true g rest = ap p (sym (some_same z y g)) ∙ e
      go false e f false g rest = rest f g
