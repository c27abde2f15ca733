-- Entries whose keys are the numbers of their items: what is found there, and what is left where one comes or goes.
use Rattle.std.proofs.Common.{◌≡◌, ℕ, ◌+◌, ◌<◌, ◌≤◌, ◌==◌, Bool, true, false, not, cond, ◌&&◌, nat_le, nat_lt, List, [], ◌∷◌, ◌++◌, filter, find, Option, Some, None, refl, sym, ◌∙◌, ap, subst, arith}
use Rattle.std.specs.List.{All}
use Rattle.std.specs.Ordering.{nat_cmp, is_eq, is_le, match_ordering}
use Rattle.std.specs.declared.cmp.Ordering.TheVariants.{Less, Equal, Greater}
use Rattle.std.specs.Map.{values_of, lookup, remove_entry}
use Rattle.std.specs.BTreeMap.{is_at, insert_entry}
use Rattle.std.proofs.lemmas.Bool.Decides.{nat_tests}
use Rattle.std.proofs.lemmas.List.Elements.{All-nil, All-cons, All-head, All-tail}
use Rattle.fab_base.specs.Keyed.{item_at, AscendFrom, added, without}
use Rattle.fab_base.proofs.KeyedLemmas as keyed
use Rattle.sorted_lists.specs.Entries.{AreRanked}

-- the tests of the map are those of numbers
at_is : (n k : ℕ) → is_eq (nat_cmp n k) ≡ (k == n)
at_is n k = go (nat_lt n k) refl (n == k) refl
  where
    go : (a : Bool) → nat_lt n k ≡ a → (b : Bool) → (n == k) ≡ b → is_eq (cond a Less (cond b Equal Greater)) ≡ (k == n)
    go true e b f = grind (arith, nat_tests)
    go false e true f = grind (arith, nat_tests)
    go false e false f = grind (arith, nat_tests)

from_is : (n k : ℕ) → (is_le (nat_cmp n k) && true) ≡ nat_le n k
from_is n k = go (nat_lt n k) refl (n == k) refl
  where
    go : (a : Bool) → nat_lt n k ≡ a → (b : Bool) → (n == k) ≡ b → (is_le (cond a Less (cond b Equal Greater)) && true) ≡ nat_le n k
    go true e b f = grind (arith, nat_tests)
    go false e true f = grind (arith, nat_tests)
    go false e false f = grind (arith, nat_tests)

less_is : (m n : ℕ) → m < n → nat_lt m n ≡ true
less_is m n e = grind (arith, nat_tests)

not_less : (m n : ℕ) → n ≤ m → nat_lt m n ≡ false
not_less m n e = grind (arith, nat_tests)

is_less : (m n : ℕ) → nat_lt m n ≡ true → m < n
is_less m n e = grind (arith, nat_tests)

is_more : (m n : ℕ) → nat_lt m n ≡ false → (m == n) ≡ false → n < m
is_more m n e f = grind (arith, nat_tests)

equal : (m n : ℕ) → (m == n) ≡ true → m ≡ n
equal m n e = grind (arith, nat_tests)

-- the item of the first entry
abbrev pub head_item : {X : Type 0} → List (ℕ × X) → Option X
head_item [] = None
head_item (e ∷ es) = Some e.1

module _ {X : Type 0} (rank : X → ℕ) where
  abbrev pub IsKeyed : ℕ × X → Type 0
  IsKeyed e = e.0 ≡ rank e.1

  -- what is found at a key
  pub found : (n : ℕ) (es : List (ℕ × X)) → All IsKeyed es → lookup (is_at (nat_cmp n)) es ≡ item_at rank n (values_of es)
  found n [] all = refl
  found n (e ∷ es) all =
      ap (λ b. cond b (Some e.1) (lookup (is_at (nat_cmp n)) es)) (at_is n e.0 ∙ ap (λ (k : ℕ). k == n) (All-head IsKeyed e es all))
      ∙ ap (λ o. cond (rank e.1 == n) (Some e.1) o) (found n es (All-tail IsKeyed e es all))

  -- the first from a key on
  pub found_from : (from : ℕ) (es : List (ℕ × X)) → All IsKeyed es → head_item (filter (λ e. is_le (nat_cmp from e.0) && true) es) ≡ find (λ x. nat_le from (rank x)) (values_of es)
  found_from from [] all = refl
  found_from from (e ∷ es) all =
      ap (λ b. head_item (cond b (e ∷ filter inside es) (filter inside es))) (from_is from e.0 ∙ ap (λ (k : ℕ). nat_le from k) (All-head IsKeyed e es all))
      ∙ go (nat_le from (rank e.1)) (found_from from es (All-tail IsKeyed e es all))
    where
      inside : ℕ × X → Bool
      inside e = is_le (nat_cmp from e.0) && true

      go : (b : Bool) → head_item (filter inside es) ≡ find (λ x. nat_le from (rank x)) (values_of es)
          → head_item (cond b (e ∷ filter inside es) (filter inside es)) ≡ cond b (Some e.1) (find (λ x. nat_le from (rank x)) (values_of es))
      go true others = refl
      go false others = others

  -- ---- one comes

  none_below : (n j : ℕ) (xs : List X) → AscendFrom rank j xs → n ≤ j → filter (λ y. nat_lt (rank y) n) xs ≡ []
  none_below n j [] up le = refl
  none_below n j (y ∷ ys) up le =
      ap (λ b. cond b (y ∷ filter (λ y. nat_lt (rank y) n) ys) (filter (λ y. nat_lt (rank y) n) ys)) (not_less (rank y) n (omega (arith, up.0, le)))
      ∙ none_below n (rank y + 1) ys up.1 (omega (arith, up.0, le))

  all_above : (n j : ℕ) (xs : List X) → AscendFrom rank j xs → n < j → filter (λ y. nat_lt n (rank y)) xs ≡ xs
  all_above n j [] up less = refl
  all_above n j (y ∷ ys) up less =
      ap (λ b. cond b (y ∷ filter (λ y. nat_lt n (rank y)) ys) (filter (λ y. nat_lt n (rank y)) ys)) (less_is n (rank y) (omega (arith, up.0, less)))
      ∙ ap (λ l. y ∷ l) (all_above n (rank y + 1) ys up.1 (omega (arith, up.0, less)))

  in_front : (x : X) (j : ℕ) (xs : List X) → AscendFrom rank j xs → rank x < j → added rank x xs ≡ x ∷ xs
  in_front x j xs up less =
      ap (λ l. l ++ x ∷ filter (λ y. nat_lt (rank x) (rank y)) xs) (none_below (rank x) j xs up (omega (arith, less)))
      ∙ ap (λ l. x ∷ l) (all_above (rank x) j xs up less)

  -- an item beside the first of a list
  beside : (x y : X) (ys : List X) (a b : Bool) → nat_lt (rank y) (rank x) ≡ a → nat_lt (rank x) (rank y) ≡ b
      → added rank x (y ∷ ys) ≡ cond a (y ∷ filter (λ z. nat_lt (rank z) (rank x)) ys) (filter (λ z. nat_lt (rank z) (rank x)) ys) ++ x ∷ cond b (y ∷ filter (λ z. nat_lt (rank x) (rank z)) ys) (filter (λ z. nat_lt (rank x) (rank z)) ys)
  beside x y ys a b e f =
      ap (λ c. cond c (y ∷ filter (λ z. nat_lt (rank z) (rank x)) ys) (filter (λ z. nat_lt (rank z) (rank x)) ys) ++ x ∷ cond (nat_lt (rank x) (rank y)) (y ∷ filter (λ z. nat_lt (rank x) (rank z)) ys) (filter (λ z. nat_lt (rank x) (rank z)) ys)) e
      ∙ ap (λ c. cond a (y ∷ filter (λ z. nat_lt (rank z) (rank x)) ys) (filter (λ z. nat_lt (rank z) (rank x)) ys) ++ x ∷ cond c (y ∷ filter (λ z. nat_lt (rank x) (rank z)) ys) (filter (λ z. nat_lt (rank x) (rank z)) ys)) f

  module _ (x : X) where
    pub inserted : (j : ℕ) (es : List (ℕ × X)) → All IsKeyed es → AscendFrom rank j (values_of es) → values_of (insert_entry nat_cmp es (rank x) x) ≡ added rank x (values_of es)
    inserted j [] all up = refl
    inserted j (e ∷ es) all up = go (nat_lt (rank x) e.0) refl (rank x == e.0) refl (inserted (rank e.1 + 1) es (All-tail IsKeyed e es all) up.1)
      where
        same : e.0 ≡ rank e.1
        same = All-head IsKeyed e es all

        go : (a : Bool) → nat_lt (rank x) e.0 ≡ a → (b : Bool) → (rank x == e.0) ≡ b → values_of (insert_entry nat_cmp es (rank x) x) ≡ added rank x (values_of es)
            → values_of (match_ordering (cond a Less (cond b Equal Greater)) ((rank x, x) ∷ e ∷ es) ((e.0, x) ∷ es) (e ∷ insert_entry nat_cmp es (rank x) x)) ≡ added rank x (e.1 ∷ values_of es)
        go true a b f others = sym (in_front x (rank e.1) (e.1 ∷ values_of es) (omega arith, up.1) (omega (arith, is_less (rank x) e.0 a, same)))
        go false a true f others =
            let is : rank x ≡ rank e.1 = equal (rank x) e.0 f ∙ same in
            sym (beside x e.1 (values_of es) false false (not_less (rank e.1) (rank x) (omega (arith, is))) (not_less (rank x) (rank e.1) (omega (arith, is)))
            ∙ in_front x (rank e.1 + 1) (values_of es) up.1 (omega (arith, is)))
        go false a false f others =
            let more : rank e.1 < rank x = omega (arith, is_more (rank x) e.0 a f, same) in
            ap (λ l. e.1 ∷ l) others
            ∙ sym (beside x e.1 (values_of es) true false (less_is (rank e.1) (rank x) more) (not_less (rank x) (rank e.1) (omega (arith, more))))

    IsKeyed-inserted : (es : List (ℕ × X)) → All IsKeyed es → All IsKeyed (insert_entry nat_cmp es (rank x) x)
    IsKeyed-inserted [] all = All-cons IsKeyed (rank x, x) [] refl (All-nil IsKeyed)
    IsKeyed-inserted (e ∷ es) all = go (nat_lt (rank x) e.0) (rank x == e.0) refl (IsKeyed-inserted es (All-tail IsKeyed e es all))
      where
        go : (a b : Bool) → (rank x == e.0) ≡ b → All IsKeyed (insert_entry nat_cmp es (rank x) x)
            → All IsKeyed (match_ordering (cond a Less (cond b Equal Greater)) ((rank x, x) ∷ e ∷ es) ((e.0, x) ∷ es) (e ∷ insert_entry nat_cmp es (rank x) x))
        go true b f others = All-cons IsKeyed (rank x, x) (e ∷ es) refl all
        go false true f others = All-cons IsKeyed (e.0, x) es (sym (equal (rank x) e.0 f)) (All-tail IsKeyed e es all)
        go false false f others = All-cons IsKeyed e (insert_entry nat_cmp es (rank x) x) (All-head IsKeyed e es all) others

    pub AreRanked-inserted : (es new : List (ℕ × X)) → AreRanked rank es → new ≡ insert_entry nat_cmp es (rank x) x → AreRanked rank new
    AreRanked-inserted es new are e = subst (AreRanked rank) (sym e) (record {
      keyed = IsKeyed-inserted es are.keyed;
      ascending = subst (AscendFrom rank 0) (sym (inserted 0 es are.keyed are.ascending)) (keyed.AscendFrom-added rank x 0 (values_of es) are.ascending (omega arith));
    })

  -- ---- one goes

  pub removed : (n j : ℕ) (es : List (ℕ × X)) → All IsKeyed es → AscendFrom rank j (values_of es) → values_of (remove_entry (is_at (nat_cmp n)) es) ≡ without rank n (values_of es)
  removed n j [] all up = refl
  removed n j (e ∷ es) all up =
      ap (λ b. values_of (cond b es (e ∷ remove_entry (is_at (nat_cmp n)) es))) (at_is n e.0 ∙ ap (λ (k : ℕ). k == n) (All-head IsKeyed e es all))
      ∙ go (rank e.1 == n) refl (removed n (rank e.1 + 1) es (All-tail IsKeyed e es all) up.1)
    where
      go : (b : Bool) → (rank e.1 == n) ≡ b → values_of (remove_entry (is_at (nat_cmp n)) es) ≡ without rank n (values_of es)
          → values_of (cond b es (e ∷ remove_entry (is_at (nat_cmp n)) es)) ≡ cond (not b) (e.1 ∷ without rank n (values_of es)) (without rank n (values_of es))
      go true f others = sym (keyed.without-absent rank n (values_of es) (keyed.item_at-below rank n (rank e.1 + 1) (values_of es) up.1 (omega (arith, equal (rank e.1) n f))))
      go false f others = ap (λ l. e.1 ∷ l) others

  IsKeyed-removed : (test : ℕ → Bool) (es : List (ℕ × X)) → All IsKeyed es → All IsKeyed (remove_entry test es)
  IsKeyed-removed test [] all = All-nil IsKeyed
  IsKeyed-removed test (e ∷ es) all = go (test e.0) (IsKeyed-removed test es (All-tail IsKeyed e es all))
    where
      go : (b : Bool) → All IsKeyed (remove_entry test es) → All IsKeyed (cond b es (e ∷ remove_entry test es))
      go true others = All-tail IsKeyed e es all
      go false others = All-cons IsKeyed e (remove_entry test es) (All-head IsKeyed e es all) others

  pub AreRanked-removed : (n : ℕ) (es new : List (ℕ × X)) → AreRanked rank es → new ≡ remove_entry (is_at (nat_cmp n)) es → AreRanked rank new
  AreRanked-removed n es new are e = subst (AreRanked rank) (sym e) (record {
    keyed = IsKeyed-removed (is_at (nat_cmp n)) es are.keyed;
    ascending = subst (AscendFrom rank 0) (sym (removed n 0 es are.keyed are.ascending)) (keyed.AscendFrom-filter rank (λ x. not (rank x == n)) 0 (values_of es) are.ascending);
  })
