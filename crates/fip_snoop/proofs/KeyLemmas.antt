-- Lists that ascend by a key, and tests that no two keys pass.
use Rattle.std.proofs.Common.{◌≡◌, ◌≢◌, ℕ, suc, ◌+◌, ◌<◌, ◌≤◌, ◌==◌, Bool, true, false, cond, ◌&&◌, ◌||◌, nat_le, nat_lt, List, [], ◌∷◌, ◌++◌, length, filter, find, map, Some, None, option_map, option_to_list, append-nil, ◌⊎◌, inl, inr, refl, sym, ◌∙◌, ap, subst, arith}
use mathlib.Core.Bool.{false≢true}
use Rattle.std.specs.List.{All, list_any}
use Rattle.std.proofs.lemmas.Bool.Decides.{nat_tests}
use Rattle.std.proofs.lemmas.List.Elements.{All-nil, All-cons, All-head, All-tail, filter-append}
use Rattle.fab_base.specs.Keyed.{item_at, AscendFrom, added, without}
use Rattle.fab_base.proofs.KeyedLemmas as keyed
use Rattle.sorted_lists.specs.Index.{IsIndex}
use Rattle.sorted_lists.proofs.IndexLemmas.{none_some, some_same, equal}
use Rattle.fip_snoop.proofs.ListLemmas.{Among, any-among, among-any, find-first, first, alike}

itself : (n : ℕ) → (n == n) ≡ true
itself n = grind (arith, nat_tests)

differs : (m n : ℕ) → n < m → (m == n) ≡ false
differs m n less = grind (arith, nat_tests)

-- ---- tests that are alike on all items

module _ {X : Type 0} (P : X → Type 0) (p q : X → Bool) (same : (x : X) → P x → p x ≡ q x) where
  pub find-alike : (xs : List X) → All P xs → find p xs ≡ find q xs
  find-alike [] all = refl
  find-alike (x ∷ xs) all = ap (λ b. cond b (Some x) (find p xs)) (same x (All-head P x xs all)) ∙ ap (λ o. cond (q x) (Some x) o) (find-alike xs (All-tail P x xs all))

  pub filter-alike : (xs : List X) → All P xs → filter p xs ≡ filter q xs
  filter-alike [] all = refl
  filter-alike (x ∷ xs) all = ap (λ b. cond b (x ∷ filter p xs) (filter p xs)) (same x (All-head P x xs all)) ∙ ap (λ l. cond (q x) (x ∷ l) l) (filter-alike xs (All-tail P x xs all))

  pub any-alike : (xs : List X) → All P xs → list_any p xs ≡ list_any q xs
  any-alike [] all = refl
  any-alike (x ∷ xs) all = ap (λ b. b || list_any p xs) (same x (All-head P x xs all)) ∙ ap (λ b. q x || b) (any-alike xs (All-tail P x xs all))

-- some item passes one of two tests
pub any-or : {X : Type 0} (p q : X → Bool) (xs : List X) → (list_any p xs || list_any q xs) ≡ list_any (λ x. p x || q x) xs
any-or p q [] = refl
any-or p q (x ∷ xs) = go (p x) (q x) (list_any p xs) (list_any q xs) ∙ ap (λ b. (p x || q x) || b) (any-or p q xs)
  where
    go : (a b c d : Bool) → ((a || c) || (b || d)) ≡ ((a || b) || (c || d))
    go true b c d = refl
    go false true true d = refl
    go false true false d = refl
    go false false c d = refl

-- what passes one filter of a list passes the other
pub filter-within : {X : Type 0} (p q : X → Bool) (xs : List X) → All (λ x. p x ≡ true → q x ≡ true) xs → filter p (filter q xs) ≡ filter p xs
filter-within p q [] all = refl
filter-within {X} p q (x ∷ xs) all = go (p x) refl (q x) refl (filter-within p q xs (All-tail (λ x. p x ≡ true → q x ≡ true) x xs all))
  where
    go : (a : Bool) → p x ≡ a → (b : Bool) → q x ≡ b → filter p (filter q xs) ≡ filter p xs → filter p (cond b (x ∷ filter q xs) (filter q xs)) ≡ cond a (x ∷ filter p xs) (filter p xs)
    go true e true f others = ap (λ b. cond b (x ∷ filter p (filter q xs)) (filter p (filter q xs))) e ∙ ap (λ l. x ∷ l) others
    go true e false f others = absurd (false≢true (sym f ∙ All-head (λ x. p x ≡ true → q x ≡ true) x xs all e))
    go false e true f others = ap (λ b. cond b (x ∷ filter p (filter q xs)) (filter p (filter q xs))) e ∙ others
    go false e false f others = others

-- a filter that all pass leaves all
pub filter-all : {X : Type 0} (p : X → Bool) (xs : List X) → All (λ x. p x ≡ true) xs → filter p xs ≡ xs
filter-all p [] all = refl
filter-all p (x ∷ xs) all = ap (λ b. cond b (x ∷ filter p xs) (filter p xs)) (All-head (λ x. p x ≡ true) x xs all) ∙ ap (λ l. x ∷ l) (filter-all p xs (All-tail (λ x. p x ≡ true) x xs all))

pub length-filter : {X : Type 0} (p : X → Bool) (xs : List X) → length (filter p xs) ≤ length xs
length-filter p [] = omega arith
length-filter p (x ∷ xs) = go (p x) (length-filter p xs)
  where
    go : (b : Bool) → length (filter p xs) ≤ length xs → length (cond b (x ∷ filter p xs) (filter p xs)) ≤ suc (length xs)
    go true le = omega (arith, le)
    go false le = omega (arith, le)

-- ---- among

module _ {X : Type 0} where
  pub All-among : (P : X → Type 0) (xs : List X) → All P xs → (x : X) → Among x xs → P x
  All-among P [] all x among = absurd among
  All-among P (y ∷ ys) all x (inl e) = subst P (sym e) (All-head P y ys all)
  All-among P (y ∷ ys) all x (inr among) = All-among P ys (All-tail P y ys all) x among

  pub All-from_among : (P : X → Type 0) (xs : List X) → ((x : X) → Among x xs → P x) → All P xs
  All-from_among P [] each = All-nil P
  All-from_among P (x ∷ xs) each = All-cons P x xs (each x (inl refl)) (All-from_among P xs (λ y among. each y (inr among)))

  -- what is among those that pass a filter passes it
  pub filter-among-all : (p : X → Bool) (x : X) (xs : List X) → Among x (filter p xs) → Among x xs × (p x ≡ true)
  filter-among-all p x [] among = absurd among
  filter-among-all p x (y ∷ ys) among = go (p y) refl among (λ among. filter-among-all p x ys among)
    where
      go : (a : Bool) → p y ≡ a → Among x (cond a (y ∷ filter p ys) (filter p ys)) → (Among x (filter p ys) → Among x ys × (p x ≡ true)) → ((x ≡ y) ⊎ Among x ys) × (p x ≡ true)
      go true this (inl e) later = (inl e, ap p e ∙ this)
      go true this (inr others) later = let found = later others in (inr found.0, found.1)
      go false this others later = let found = later others in (inr found.0, found.1)

  pub found-among : (p : X → Bool) (xs : List X) (x : X) → find p xs ≡ Some x → Among x xs
  found-among p [] x found = absurd (none_some x found)
  found-among p (y ∷ ys) x found = go (p y) found (λ later. found-among p ys x later)
    where
      go : (b : Bool) → cond b (Some y) (find p ys) ≡ Some x → (find p ys ≡ Some x → Among x ys) → (x ≡ y) ⊎ Among x ys
      go true this later = inl (sym (some_same y x this))
      go false other later = inr (later other)

module _ {X : Type 0} (key : X → ℕ) where
  -- no item of a list is below its bound
  pub above-among : (k : ℕ) (xs : List X) → AscendFrom key k xs → (x : X) → Among x xs → k ≤ key x
  above-among k [] ascend x among = absurd among
  above-among k (y ∷ ys) ascend x (inl e) = omega (arith, ascend.0, ap key e)
  above-among k (y ∷ ys) ascend x (inr among) = omega (arith, ascend.0, above-among (key y + 1) ys ascend.1 x among)

  pub item-among : (k : ℕ) (xs : List X) → AscendFrom key k xs → (x : X) → Among x xs → item_at key (key x) xs ≡ Some x
  item-among k [] ascend x among = absurd among
  item-among k (y ∷ ys) ascend x (inl e) = subst (λ z. item_at key (key z) (y ∷ ys) ≡ Some z) (sym e) (ap (λ b. cond b (Some y) (item_at key (key y) ys)) (itself (key y)))
  item-among k (y ∷ ys) ascend x (inr among) =
      ap (λ b. cond b (Some y) (item_at key (key x) ys)) (less (key y) (key x) (above-among (key y + 1) ys ascend.1 x among)) ∙ item-among (key y + 1) ys ascend.1 x among
    where
      less : (m n : ℕ) → m + 1 ≤ n → (m == n) ≡ false
      less m n le = grind (arith, nat_tests)

  -- items of one key are one
  pub one-among : (xs : List X) → AscendFrom key 0 xs → (x y : X) → Among x xs → Among y xs → key x ≡ key y → x ≡ y
  one-among xs ascend x y here there same =
      some_same x y (sym (item-among 0 xs ascend x here) ∙ ap (λ n. item_at key n xs) same ∙ item-among 0 xs ascend y there)

  -- an item that is there makes no difference
  pub added-there : (x : X) (xs : List X) → AscendFrom key 0 xs → item_at key (key x) xs ≡ Some x → added key x xs ≡ xs
  added-there x xs ascend there =
      keyed.equal_by_items key 0 (added key x xs) xs (keyed.AscendFrom-added key x 0 xs ascend (omega arith)) ascend (λ a. keyed.item_at-added key x xs a ∙ go a (key x == a) refl)
    where
      go : (a : ℕ) (b : Bool) → (key x == a) ≡ b → cond b (Some x) (item_at key a xs) ≡ item_at key a xs
      go a true e = sym (ap (λ n. item_at key n xs) (sym (equal (key x) a e)) ∙ there)
      go a false e = refl

  -- ---- what is first from a bound on

  past-none : (from to k : ℕ) (xs : List X) → AscendFrom key k xs → to ≤ k → list_any (λ x. nat_le from (key x) && nat_lt (key x) to) xs ≡ false
  past-none from to k [] ascend past = refl
  past-none from to k (x ∷ xs) ascend past = go (nat_le from (key x)) (nat_lt (key x) to) (not_below (key x) to (omega (arith, ascend.0, past))) (past-none from to (key x + 1) xs ascend.1 (omega (arith, ascend.0, past)))
    where
      not_below : (m n : ℕ) → n ≤ m → nat_lt m n ≡ false
      not_below m n le = grind (arith, nat_tests)

      go : (a b : Bool) → b ≡ false → list_any (λ x. nat_le from (key x) && nat_lt (key x) to) xs ≡ false → ((a && b) || list_any (λ x. nat_le from (key x) && nat_lt (key x) to) xs) ≡ false
      go true b e others = rw e others
      go false b e others = others

  -- the first from a bound on is in a range, or none is
  pub between-some : (from to k : ℕ) (xs : List X) (x : X) → AscendFrom key k xs → find (λ y. nat_le from (key y)) xs ≡ Some x → nat_lt (key x) to ≡ list_any (λ y. nat_le from (key y) && nat_lt (key y) to) xs
  between-some from to k [] x ascend found = absurd (none_some x found)
  between-some from to k (y ∷ ys) x ascend found = go (nat_le from (key y)) found (λ later. between-some from to (key y + 1) ys x ascend.1 later)
    where
      rest : List X → Bool
      rest zs = list_any (λ y. nat_le from (key y) && nat_lt (key y) to) zs

      past : (b : Bool) → nat_lt (key y) to ≡ b → b ≡ (b || rest ys)
      past true e = refl
      past false e = sym (past-none from to (key y + 1) ys ascend.1 (reached (key y) to e))
        where
          reached : (m n : ℕ) → nat_lt m n ≡ false → n ≤ m + 1
          reached m n e = grind (arith, nat_tests)

      go : (a : Bool) → cond a (Some y) (find (λ y. nat_le from (key y)) ys) ≡ Some x → (find (λ y. nat_le from (key y)) ys ≡ Some x → nat_lt (key x) to ≡ rest ys) → nat_lt (key x) to ≡ ((a && nat_lt (key y) to) || rest ys)
      go true this later = ap (λ z. nat_lt (key z) to) (sym (some_same y x this)) ∙ past (nat_lt (key y) to) refl
      go false other later = later other

  pub between-none : (from to : ℕ) (xs : List X) → find (λ y. nat_le from (key y)) xs ≡ None → false ≡ list_any (λ y. nat_le from (key y) && nat_lt (key y) to) xs
  between-none from to [] none = refl
  between-none from to (x ∷ xs) none = go (nat_le from (key x)) none (λ later. between-none from to xs later)
    where
      go : (a : Bool) → cond a (Some x) (find (λ y. nat_le from (key y)) xs) ≡ None → (find (λ y. nat_le from (key y)) xs ≡ None → false ≡ list_any (λ y. nat_le from (key y) && nat_lt (key y) to) xs)
          → false ≡ ((a && nat_lt (key x) to) || list_any (λ y. nat_le from (key y) && nat_lt (key y) to) xs)
      go true this later = absurd (none_some x (sym this))
      go false other later = later other

  -- ---- a test that items of one key alone pass

  module _ (q : X → Bool) (one : (x y : X) → q x ≡ true → q y ≡ true → key x ≡ key y) where
    none_behind : (x : X) (k : ℕ) (xs : List X) → q x ≡ true → AscendFrom key k xs → key x < k → filter q xs ≡ []
    none_behind x k [] this ascend less = refl
    none_behind x k (y ∷ ys) this ascend less = go (q y) refl (none_behind x (key y + 1) ys this ascend.1 (omega (arith, less, ascend.0)))
      where
        go : (b : Bool) → q y ≡ b → filter q ys ≡ [] → cond b (y ∷ filter q ys) (filter q ys) ≡ []
        go true that others = absurd (omega (arith, one x y this that, less, ascend.0))
        go false that others = others

    pub filter-one : (k : ℕ) (xs : List X) → AscendFrom key k xs → filter q xs ≡ option_to_list (find q xs)
    filter-one k [] ascend = refl
    filter-one k (x ∷ xs) ascend = go (q x) refl (filter-one (key x + 1) xs ascend.1)
      where
        go : (b : Bool) → q x ≡ b → filter q xs ≡ option_to_list (find q xs) → cond b (x ∷ filter q xs) (filter q xs) ≡ option_to_list (cond b (Some x) (find q xs))
        go true this others = ap (λ l. x ∷ l) (none_behind x (key x + 1) xs this ascend.1 (omega arith))
        go false other others = others

    filter-absent : (x : X) (xs : List X) → q x ≡ true → item_at key (key x) xs ≡ None → filter q xs ≡ []
    filter-absent x [] this absent = refl
    filter-absent x (y ∷ ys) this absent = go (q y) refl (key y == key x) refl absent (λ gone. filter-absent x ys this gone)
      where
        go : (b : Bool) → q y ≡ b → (c : Bool) → (key y == key x) ≡ c → cond c (Some y) (item_at key (key x) ys) ≡ None → (item_at key (key x) ys ≡ None → filter q ys ≡ []) → cond b (y ∷ filter q ys) (filter q ys) ≡ []
        go b that true same gone later = absurd (none_some y (sym gone))
        go true that false other gone later = absurd (false≢true (sym other ∙ ap (λ n. key y == n) (one x y this that) ∙ itself (key y)))
        go false that false other gone later = later gone

    -- a new item passes wherever it is put
    pub filter-put : (x : X) (xs : List X) → AscendFrom key 0 xs → item_at key (key x) xs ≡ None → filter q (added key x xs) ≡ filter q (xs ++ x ∷ [])
    filter-put x xs ascend absent =
        filter-one 0 (added key x xs) (keyed.AscendFrom-added key x 0 xs ascend (omega arith))
        ∙ ap option_to_list (keyed.find-added key q x 0 xs ascend absent (λ this. find-first q xs ∙ ap first (filter-absent x xs this absent)))
        ∙ go (q x) refl
        ∙ sym (filter-append q xs (x ∷ []))
      where
        go : (b : Bool) → q x ≡ b → option_to_list (cond b (Some x) (find q xs)) ≡ filter q xs ++ cond b (x ∷ []) []
        go true this = ap (λ l. l ++ x ∷ []) (sym (filter-absent x xs this absent))
        go false other = sym (filter-one 0 xs ascend) ∙ sym (append-nil (filter q xs))

-- ---- two orders of the same items

module _ {X : Type 0} (key number : X → ℕ) (xs others : List X) (ascend : AscendFrom key 0 xs) (same : IsIndex key number (λ x. x) xs others) where
  pub numbered : (x : X) → Among x xs → item_at number (number x) others ≡ Some x
  numbered x among = same.told (key x) x (item-among key 0 xs ascend x among)

  pub among_other : (x : X) → Among x xs → Among x others
  among_other x among = found-among _ others x (numbered x among)

  pub among_back : (x : X) → Among x others → Among x xs
  among_back x among =
      let of = same.made (number x) x (item-among number 0 others same.ascending x among) in
      subst (λ y. Among y xs) of.3 (found-among _ xs of.1 of.2)

  pub All-other : (P : X → Type 0) → All P xs → All P others
  All-other P all = All-from_among P others (λ x among. All-among P xs all x (among_back x among))

  pub any-orders : (p : X → Bool) → list_any p others ≡ list_any p xs
  any-orders p = alike _ _
      (λ e. let found = any-among p others e in among-any p found.0 xs (among_back found.0 found.1) found.2)
      (λ e. let found = any-among p xs e in among-any p found.0 others (among_other found.0 found.1) found.2)

-- ---- lists that are changed by their keys

module _ {X : Type 0} (key : X → ℕ) (xs : List X) (ascend : AscendFrom key 0 xs) where
  -- the order of one that comes and one that goes is free
  pub without-added : (x : X) (n : ℕ) → n ≢ key x → without key n (added key x xs) ≡ added key x (without key n xs)
  without-added x n apart =
      keyed.equal_by_items key 0 (without key n (added key x xs)) (added key x (without key n xs))
      (keyed.AscendFrom-filter key _ 0 (added key x xs) (keyed.AscendFrom-added key x 0 xs ascend (omega arith)))
      (keyed.AscendFrom-added key x 0 (without key n xs) (keyed.AscendFrom-filter key _ 0 xs ascend) (omega arith))
      (λ a.
      keyed.item_at-without key n a (added key x xs) ∙ ap (λ o. cond (n == a) None o) (keyed.item_at-added key x xs a)
      ∙ go a (n == a) refl (key x == a) refl
      ∙ sym (keyed.item_at-added key x (without key n xs) a ∙ ap (λ o. cond (key x == a) (Some x) o) (keyed.item_at-without key n a xs)))
    where
      go : (a : ℕ) (b : Bool) → (n == a) ≡ b → (c : Bool) → (key x == a) ≡ c → cond b None (cond c (Some x) (item_at key a xs)) ≡ cond c (Some x) (cond b None (item_at key a xs))
      go a true e true f = absurd (apart (equal n a e ∙ sym (equal (key x) a f)))
      go a true e false f = refl
      go a false e true f = refl
      go a false e false f = refl

  -- what came goes again
  pub added-gone : (x : X) → item_at key (key x) xs ≡ None → without key (key x) (added key x xs) ≡ xs
  added-gone x absent =
      keyed.equal_by_items key 0 (without key (key x) (added key x xs)) xs
      (keyed.AscendFrom-filter key _ 0 (added key x xs) (keyed.AscendFrom-added key x 0 xs ascend (omega arith))) ascend
      (λ a.
      keyed.item_at-without key (key x) a (added key x xs) ∙ ap (λ o. cond (key x == a) None o) (keyed.item_at-added key x xs a)
      ∙ go a (key x == a) refl)
    where
      go : (a : ℕ) (c : Bool) → (key x == a) ≡ c → cond c None (cond c (Some x) (item_at key a xs)) ≡ item_at key a xs
      go a true f = sym (ap (λ n. item_at key n xs) (sym (equal (key x) a f)) ∙ absent)
      go a false f = refl

  -- the one that was there is put back
  pub added-back : (x y : X) → key y ≡ key x → item_at key (key x) xs ≡ Some y → added key y (added key x xs) ≡ xs
  added-back x y same there =
      keyed.equal_by_items key 0 (added key y (added key x xs)) xs
      (keyed.AscendFrom-added key y 0 (added key x xs) (keyed.AscendFrom-added key x 0 xs ascend (omega arith)) (omega arith)) ascend
      (λ a.
      keyed.item_at-added key y (added key x xs) a ∙ ap (λ o. cond (key y == a) (Some y) o) (keyed.item_at-added key x xs a)
      ∙ ap (λ n. cond (n == a) (Some y) (cond (key x == a) (Some x) (item_at key a xs))) same
      ∙ go a (key x == a) refl)
    where
      go : (a : ℕ) (c : Bool) → (key x == a) ≡ c → cond c (Some y) (cond c (Some x) (item_at key a xs)) ≡ item_at key a xs
      go a true f = sym (ap (λ n. item_at key n xs) (sym (equal (key x) a f)) ∙ there)
      go a false f = refl

-- ---- items that are kept in other ones

module _ {X Y : Type 0} (f : Y → X) where
  pub find-of : (p : X → Bool) (ys : List Y) → find p (map f ys) ≡ option_map f (find (λ y. p (f y)) ys)
  find-of p [] = refl
  find-of p (y ∷ ys) = go (p (f y)) (find-of p ys)
    where
      go : (b : Bool) → find p (map f ys) ≡ option_map f (find (λ y. p (f y)) ys) → cond b (Some (f y)) (find p (map f ys)) ≡ option_map f (cond b (Some y) (find (λ y. p (f y)) ys))
      go true others = refl
      go false others = others

  pub filter-of : (p : X → Bool) (ys : List Y) → map f (filter (λ y. p (f y)) ys) ≡ filter p (map f ys)
  filter-of p [] = refl
  filter-of p (y ∷ ys) = go (p (f y)) (filter-of p ys)
    where
      go : (b : Bool) → map f (filter (λ y. p (f y)) ys) ≡ filter p (map f ys) → map f (cond b (y ∷ filter (λ y. p (f y)) ys) (filter (λ y. p (f y)) ys)) ≡ cond b (f y ∷ filter p (map f ys)) (filter p (map f ys))
      go true others = ap (λ l. f y ∷ l) others
      go false others = others

  pub added-of : (key : X → ℕ) (y : Y) (ys : List Y) → map f (added (λ z. key (f z)) y ys) ≡ added key (f y) (map f ys)
  added-of key y ys =
      map-append (filter (λ z. nat_lt (key (f z)) (key (f y))) ys) (y ∷ filter (λ z. nat_lt (key (f y)) (key (f z))) ys)
      ∙ ap (λ l. l ++ f y ∷ map f (filter (λ z. nat_lt (key (f y)) (key (f z))) ys)) (filter-of (λ x. nat_lt (key x) (key (f y))) ys)
      ∙ ap (λ l. filter (λ x. nat_lt (key x) (key (f y))) (map f ys) ++ f y ∷ l) (filter-of (λ x. nat_lt (key (f y)) (key x)) ys)
    where
      map-append : (us vs : List Y) → map f (us ++ vs) ≡ map f us ++ map f vs
      map-append [] vs = refl
      map-append (u ∷ us) vs = ap (λ l. f u ∷ l) (map-append us vs)
