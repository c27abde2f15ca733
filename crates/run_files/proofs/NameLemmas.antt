-- One of several names, and whether the count of one of them rose.
use Rattle.std.proofs.Common.{◌≡◌, ◌≢◌, ℕ, zero, suc, ◌+◌, ◌-◌, ◌<◌, ◌≤◌, List, [], ◌∷◌, ◌++◌, ◌⊎◌, length, false, inl, inr, refl, ap, ◌∙◌, arith}
use Rattle.std.specs.Prelude.{map}
use Rattle.std.specs.Str.{bytes_eq}
use Rattle.std.proofs.lemmas.Slice.Eq.{bytes_eq-Decides}
use Rattle.fab_base.specs.Ending.{RoseIn}
use Rattle.fab_base.proofs.SeenLemmas.{rose_later}
use Rattle.fab_base.specs.Counting.{counting}
use Rattle.pcap_file.proofs.lemmas.Numbers.{le_or_lt}
use Rattle.run_files.specs.Names.{Among}

pub differs : (m n : List ℕ) → bytes_eq m n ≡ false → m ≢ n
differs m n other e = let same = (bytes_eq-Decides m n).1 e in absurd (cc)

-- ---- names and further names

pub among_front : (names more : List (List ℕ)) (m : List ℕ) → Among names m → Among (names ++ more) m
among_front [] more m a = absurd a
among_front (n ∷ names) more m (inl is) = inl is
among_front (n ∷ names) more m (inr a) = inr (among_front names more m a)

pub among_back : (names more : List (List ℕ)) (m : List ℕ) → Among more m → Among (names ++ more) m
among_back [] more m a = a
among_back (n ∷ names) more m a = inr (among_back names more m a)

pub among_split : (names more : List (List ℕ)) (m : List ℕ) → Among (names ++ more) m → Among names m ⊎ Among more m
among_split [] more m a = inr a
among_split (n ∷ names) more m (inl is) = inl (inl is)
among_split (n ∷ names) more m (inr a) = elim (among_split names more m a) [ inl front ↦ inl (inr front) | inr back ↦ inr back ]

-- names up to one are among all
pub among_all : (names behind : List (List ℕ)) (name m : List ℕ) → Among (names ++ name ∷ []) m → Among (names ++ name ∷ behind) m
among_all names behind name m x = elim (among_split names (name ∷ []) m x) [
  | inl front ↦ among_front names (name ∷ behind) m front
  | inr own ↦ among_back names (name ∷ behind) m (elim own [ inl is ↦ inl is | inr none ↦ absurd none ])
]

-- ---- numbered names

pub among_counted : (f : ℕ → List ℕ) (k n : ℕ) (m : List ℕ) → Among (map f (counting k n)) m → (q : ℕ) × (k ≤ q) × (q < k + n) × (m ≡ f q)
among_counted f k zero m a = absurd a
among_counted f k (suc n) m (inl is) = (k, omega arith, omega arith, is)
among_counted f k (suc n) m (inr a) = let h = among_counted f (k + 1) n m a in (h.0, let le = h.1 in omega arith, let lt = h.2 in omega arith, h.3)

pub counted_among : (f : ℕ → List ℕ) (k n q : ℕ) → k ≤ q → q < k + n → Among (map f (counting k n)) (f q)
counted_among f k zero q le lt = absurd (omega arith)
counted_among f k (suc n) q le lt = elim (le_or_lt q k) [
  | inl first ↦ inl (ap f (let e : q ≡ k = omega arith in e))
  | inr later ↦ inr (counted_among f (k + 1) n q (omega arith) (omega arith))
]

pub split_counted : {B : Type 0} (f : ℕ → B) (k q m : ℕ) → map f (counting k (q + suc m)) ≡ map f (counting k q) ++ f (k + q) ∷ map f (counting (k + q + 1) m)
split_counted f k zero m =
    let count : zero + suc m ≡ suc m = omega arith in
    let at : k ≡ k + zero = omega arith in
    ap (λ (n : ℕ). map f (counting k n)) count ∙ ap (λ (p : ℕ). f p ∷ map f (counting (p + 1) m)) at
split_counted f k (suc q) m =
    let count : suc q + suc m ≡ suc (q + suc m) = omega arith in
    let at : k + 1 + q ≡ k + suc q = omega arith in
    ap (λ (n : ℕ). map f (counting k n)) count ∙ ap (λ l. f k ∷ l) (split_counted f (k + 1) q m ∙ ap (λ (p : ℕ). map f (counting (k + 1) q) ++ f p ∷ map f (counting (p + 1) m)) at)

-- names up to a place, the one there, and those behind it
pub split_names : (f : ℕ → List ℕ) (n q : ℕ) → q < n → map f (counting 0 n) ≡ map f (counting 0 q) ++ f q ∷ map f (counting (q + 1) (n - (q + 1)))
split_names f n q lt =
    let count : n ≡ q + suc (n - (q + 1)) = omega arith in
    let at : 0 + q ≡ q = omega arith in
    ap (λ (m : ℕ). map f (counting 0 m)) count ∙ split_counted f 0 q (n - (q + 1)) ∙ ap (λ (p : ℕ). map f (counting 0 q) ++ f p ∷ map f (counting (p + 1) (n - (q + 1)))) at

pub push_name : (f : ℕ → List ℕ) (q : ℕ) → map f (counting 0 (q + 1)) ≡ map f (counting 0 q) ++ f q ∷ []
push_name f q = let none : q + 1 - (q + 1) ≡ 0 = omega arith in split_names f (q + 1) q (omega arith) ∙ ap (λ (m : ℕ). map f (counting 0 q) ++ f q ∷ map f (counting (q + 1) m)) none

pub length-counted : {B : Type 0} (f : ℕ → B) (k n : ℕ) → length (map f (counting k n)) ≡ n
length-counted f k zero = refl
length-counted f k (suc n) = let h = length-counted f (k + 1) n in omega arith

-- ---- counts

-- one that rose of counts that didn't fall before
pub rose_since : (earlier before now : List ℕ → ℕ) → ((m : List ℕ) → earlier m ≤ before m) → (names : List (List ℕ)) → RoseIn (Among names) before now → RoseIn (Among names) earlier now
rose_since earlier before now le names rose = (rose.0, rose.1, rose_later (earlier rose.0) (before rose.0) (now rose.0) (le rose.0) rose.2)
