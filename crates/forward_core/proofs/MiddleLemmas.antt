-- Lists that ascend by their keys, and one item in the middle of them.
use Rattle.std.proofs.Common.{◌≡◌, ℕ, zero, suc, ◌+◌, ◌<◌, ◌≤◌, ◌==◌, Bool, true, false, cond, if◌then◌else◌, List, [], ◌∷◌, ◌++◌, map, Option, Some, None, is_none, refl, sym, ◌∙◌, ap, subst, arith}
use Rattle.std.specs.List.{AllByRecursion}
use Rattle.std.proofs.lemmas.Bool.Decides.{nat_tests}
use Rattle.fab_base.specs.Counting.{counting}
use Rattle.fab_base.specs.Keyed.{AscendFrom, item_at}
use Rattle.fab_base.proofs.KeyedLemmas.{equal_by_items}

-- ---- numbers

pub is_same : (a : ℕ) → a == a ≡ true
is_same a = grind (arith, nat_tests)

pub is_equal : (a b : ℕ) → a == b ≡ true → a ≡ b
is_equal a b e = grind (arith, nat_tests)

pub is_less : (a b : ℕ) → a < b → a == b ≡ false
is_less a b e = grind (arith, nat_tests)

pub is_turned : (a b : ℕ) (c : Bool) → a == b ≡ c → b == a ≡ c
is_turned a b true e = grind (arith, nat_tests, e)
is_turned a b false e = grind (arith, nat_tests, e)

-- ---- the item of the middle

pub all_middle : {X : Type 0} (P : X → Type 0) (xs : List X) (x : X) (ys : List X) → AllByRecursion P (xs ++ x ∷ ys) → P x
all_middle P [] x ys all = all.0
all_middle P (z ∷ xs) x ys all = all_middle P xs x ys all.1

-- an item goes from the rest to what is before it
pub moved : {X Y : Type 0} (f : X → Y) (xs : List X) (x : X) (ys : List Y) → map f (xs ++ x ∷ []) ++ ys ≡ map f xs ++ f x ∷ ys
moved f [] x ys = refl
moved f (z ∷ xs) x ys = ap (λ l. f z ∷ l) (moved f xs x ys)

pub moved_on : {X : Type 0} (xs : List X) (x : X) (ys : List X) → (xs ++ x ∷ []) ++ ys ≡ xs ++ x ∷ ys
moved_on [] x ys = refl
moved_on (z ∷ xs) x ys = ap (λ l. z ∷ l) (moved_on xs x ys)

pub map_twice : {X : Type 0} (f g h : X → X) → ((x : X) → g (f x) ≡ h x) → (xs : List X) → map g (map f xs) ≡ map h xs
map_twice f g h same [] = refl
map_twice f g h same (x ∷ xs) = ap (λ y. y ∷ map g (map f xs)) (same x) ∙ ap (λ l. h x ∷ l) (map_twice f g h same xs)

module _ {X : Type 0} (key : X → ℕ) where
  -- keys that follow one another ascend
  pub counted_ascend : (xs : List X) (first n : ℕ) → map key xs ≡ counting first n → AscendFrom key first xs
  counted_ascend [] first n e = tt
  counted_ascend (x ∷ xs) first zero e = absurd (cc)
  counted_ascend (x ∷ xs) first (suc n) e =
      let head : key x ≡ first = cc in
      let rest : map key xs ≡ counting (first + 1) n = cc in
      (omega (arith, head), subst (λ (k : ℕ). AscendFrom key (k + 1) xs) (sym head) (counted_ascend xs (first + 1) n rest))

  pub ascend_before : (k : ℕ) (xs ys : List X) → AscendFrom key k (xs ++ ys) → AscendFrom key k xs
  ascend_before k [] ys h = tt
  ascend_before k (x ∷ xs) ys h = (h.0, ascend_before (key x + 1) xs ys h.1)

  above : (k : ℕ) (xs : List X) (x : X) (ys : List X) → AscendFrom key k (xs ++ x ∷ ys) → k ≤ key x
  above k [] x ys h = h.0
  above k (z ∷ xs) x ys h = let more = above (key z + 1) xs x ys h.1 in let least = h.0 in omega (arith, more, least)

  apart : (k : ℕ) (z : X) (xs : List X) (x : X) (ys : List X) → AscendFrom key k (z ∷ (xs ++ x ∷ ys)) → key z == key x ≡ false
  apart k z xs x ys h = let more = above (key z + 1) xs x ys h.1 in is_less (key z) (key x) (omega (arith, more))

  -- no item before another has its key
  pub none_before : (k : ℕ) (xs : List X) (x : X) (ys : List X) → AscendFrom key k (xs ++ x ∷ ys) → item_at key (key x) xs ≡ None
  none_before k [] x ys h = refl
  none_before k (z ∷ xs) x ys h = ap (λ b. cond b (Some z) (item_at key (key x) xs)) (apart k z xs x ys h) ∙ none_before (key z + 1) xs x ys h.1

  pub found_middle : (k : ℕ) (xs : List X) (x : X) (ys : List X) → AscendFrom key k (xs ++ x ∷ ys) → item_at key (key x) (xs ++ x ∷ ys) ≡ Some x
  found_middle k [] x ys h = ap (λ b. cond b (Some x) (item_at key (key x) ys)) (is_same (key x))
  found_middle k (z ∷ xs) x ys h = ap (λ b. cond b (Some z) (item_at key (key x) (xs ++ x ∷ ys))) (apart k z xs x ys h) ∙ found_middle (key z + 1) xs x ys h.1

  -- what is found before stays found
  pub found_before : (xs ys : List X) (a : ℕ) (x : X) → item_at key a xs ≡ Some x → item_at key a (xs ++ ys) ≡ Some x
  found_before [] ys a x e = absurd (cc)
  found_before (z ∷ xs) ys a x e = go (key z == a) e (found_before xs ys a x)
    where
      go : (b : Bool) → cond b (Some z) (item_at key a xs) ≡ Some x → (item_at key a xs ≡ Some x → item_at key a (xs ++ ys) ≡ Some x) → cond b (Some z) (item_at key a (xs ++ ys)) ≡ Some x
      go true e later = e
      go false e later = later e

  -- an item behind all others
  pub found_pushed : (xs : List X) (x : X) (b : ℕ) → item_at key (key x) xs ≡ None → item_at key b (xs ++ x ∷ []) ≡ (if b == key x then Some x else item_at key b xs)
  found_pushed xs x b none = go (b == key x) refl
    where
      at_end : (c : Bool) → key x == b ≡ c → (zs : List X) → item_at key b (zs ++ x ∷ []) ≡ (if is_none (item_at key b zs) then cond c (Some x) None else item_at key b zs)
      at_end c e [] = ap (λ d. cond d (Some x) None) e
      at_end c e (z ∷ zs) = by (key z == b) (at_end c e zs)
        where
          by : (d : Bool) → item_at key b (zs ++ x ∷ []) ≡ (if is_none (item_at key b zs) then cond c (Some x) None else item_at key b zs)
              → cond d (Some z) (item_at key b (zs ++ x ∷ [])) ≡ (if is_none (cond d (Some z) (item_at key b zs)) then cond c (Some x) None else cond d (Some z) (item_at key b zs))
          by true ih = refl
          by false ih = ih

      or_nothing : (o : Option X) → (if is_none o then None else o) ≡ o
      or_nothing None = refl
      or_nothing (Some y) = refl

      go : (c : Bool) → b == key x ≡ c → item_at key b (xs ++ x ∷ []) ≡ (if c then Some x else item_at key b xs)
      go true e =
          let here : item_at key b xs ≡ None = ap (λ n. item_at key n xs) (is_equal b (key x) e) ∙ none in
          at_end true (is_turned b (key x) true e) xs ∙ ap (λ o. if is_none o then Some x else o) here
      go false e = at_end false (is_turned b (key x) false e) xs ∙ or_nothing (item_at key b xs)

  -- an item in the place of one with the same key
  pub replaced : (k : ℕ) (xs : List X) (x y : X) (ys : List X) (b : ℕ) → key y ≡ key x → AscendFrom key k (xs ++ x ∷ ys) →
      item_at key b (xs ++ y ∷ ys) ≡ (if key x == b then Some y else item_at key b (xs ++ x ∷ ys))
  replaced k [] x y ys b same h = ap (λ n. cond (n == b) (Some y) (item_at key b ys)) same ∙ go (key x == b)
    where
      go : (c : Bool) → cond c (Some y) (item_at key b ys) ≡ (if c then Some y else cond c (Some x) (item_at key b ys))
      go true = refl
      go false = refl
  replaced k (z ∷ xs) x y ys b same h = go (key z == b) refl (replaced (key z + 1) xs x y ys b same h.1)
    where
      go : (c : Bool) → key z == b ≡ c → item_at key b (xs ++ y ∷ ys) ≡ (if key x == b then Some y else item_at key b (xs ++ x ∷ ys))
          → cond c (Some z) (item_at key b (xs ++ y ∷ ys)) ≡ (if key x == b then Some y else cond c (Some z) (item_at key b (xs ++ x ∷ ys)))
      go true e ih =
          let other : key x == b ≡ false = ap (λ n. key x == n) (sym (is_equal (key z) b e)) ∙ is_turned (key z) (key x) false (apart k z xs x ys h) in
          sym (ap (λ d. if d then Some y else Some z) other)
      go false e ih = ih

  -- A list with counted keys that finds another item at one key, and else what it found.
  pub put_middle : (first n : ℕ) (xs ys : List X) (x y : X) (zs : List X) → map key (xs ++ x ∷ ys) ≡ counting first n → map key zs ≡ counting first n → key y ≡ key x
      → ((b : ℕ) → item_at key b zs ≡ (if key x == b then Some y else item_at key b (xs ++ x ∷ ys))) → zs ≡ xs ++ y ∷ ys
  put_middle first n xs ys x y zs places also same is =
      let before = counted_ascend (xs ++ x ∷ ys) first n places in
      equal_by_items key first zs (xs ++ y ∷ ys) (counted_ascend zs first n also) (counted_ascend (xs ++ y ∷ ys) first n (keys_same xs ∙ places))
      (λ b. is b ∙ sym (replaced first xs x y ys b same before))
    where
      keys_same : (ws : List X) → map key (ws ++ y ∷ ys) ≡ map key (ws ++ x ∷ ys)
      keys_same [] = ap (λ k. k ∷ map key ys) same
      keys_same (z ∷ ws) = ap (λ l. key z ∷ l) (keys_same ws)
