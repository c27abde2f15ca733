-- Bits of rows.
use Rattle.std.proofs.Common.{◌≡◌, ℕ, zero, suc, ◌+◌, ◌-◌, ◌*◌, ◌/◌, ◌%◌, ◌^◌, ◌<◌, ◌≤◌, List, [], ◌++◌, length, Bool, true, false, not, Some, eqb, ◌&&◌, ◌||◌, ◌⊎◌, inl, inr, get_or, take, replicate, bit_and, bit_or, min, refl, sym, ◌∙◌, ap, arith}
use Rattle.std.proofs.Math.ListN.{set}
use Rattle.std.specs.Int.{bit_at, w64, trailing_zeros}
use Rattle.std.proofs.lemmas.Bool.{ne_eqb, cases_eq, cases_lt}
use Rattle.std.proofs.lemmas.Nat.{and_le_l, and_le_r}
use Rattle.std.proofs.lemmas.Nat.Bits.{bit_at-zero, bit_at_and, bit_at-lt, bit_at_set_same, bit_at_set_other, bit_at_clear_same, bit_at_clear_other, bit_at-trailing_zeros, ones_shl, bit_at_mask_inside, bit_at_mask_below, bit_at_ones}
use Rattle.std.proofs.lemmas.Grind.{get_or_default_zero}
use Rattle.std.proofs.lemmas.List.{get_or_past, get_or_append_left, get_or-append_right, get_or-replicate, get_or-set_same, get_or-set_other, take_all, length-replicate}
use Rattle.sorted_lists.specs.Row.{has, IsCommon, HasNone, IsNextBit}

eqb_yes : (n : ℕ) → eqb n n ≡ true
eqb_yes n = grind arith

pub has-none : (q : ℕ) → has [] q ≡ false
unfolding has
has-none q = ap (λ (n : ℕ). eqb n 1) (bit_at-zero (q % 64))

-- ---- a bit that is set

-- zeros behind a row say nothing new
pub padded : (row : List ℕ) (n m k : ℕ) → length row ≤ n → get_or (take n row ++ replicate m 0) k 0 ≡ get_or row k 0
padded row n m k le = ap (λ (l : List ℕ). get_or (l ++ replicate {A = ℕ} m 0) k 0) (take_all n row le) ∙ by (cases_lt k (length row))
  where
    behind : (j : ℕ) → (j < m) ⊎ (m ≤ j) → get_or (replicate {A = ℕ} m 0) j 0 ≡ 0
    behind j (inl lt) = get_or-replicate m j 0 0 lt
    behind j (inr ge) = get_or_past (replicate m 0) j 0 (omega (arith, length-replicate {A = ℕ} m 0))

    by : (k < length row) ⊎ (length row ≤ k) → get_or (row ++ replicate m 0) k 0 ≡ get_or row k 0
    by (inl lt) = get_or_append_left row (replicate m 0) 0 k lt
    by (inr ge) =
        get_or-append_right row (replicate m 0) (length row) k 0 refl ge ∙ behind (k - length row) (cases_lt (k - length row) m)
        ∙ sym (get_or_past row k 0 ge)

has-set_word : (row wide : List ℕ) (place q : ℕ) → ((k : ℕ) → get_or wide k 0 ≡ get_or row k 0) → place / 64 < length wide
    → has (set wide (place / 64) (bit_or (get_or wide (place / 64) 0) (1 * 2 ^ (place % 64) % 2 ^ 64))) q ≡ (eqb place q || has row q)
unfolding has
has-set_word row wide place q same within = by (cases_eq (q / 64) (place / 64)) (cases_eq (q % 64) (place % 64))
  where
    here : q / 64 ≡ place / 64 → get_or (set wide (place / 64) (bit_or (get_or wide (place / 64) 0) (1 * 2 ^ (place % 64) % 2 ^ 64))) (q / 64) 0 ≡ bit_or (get_or wide (place / 64) 0) (1 * 2 ^ (place % 64) % 2 ^ 64)
    here e = ap (λ (n : ℕ). get_or (set wide (place / 64) (bit_or (get_or wide (place / 64) 0) (1 * 2 ^ (place % 64) % 2 ^ 64))) n 0) e ∙ get_or-set_same wide (place / 64) (bit_or (get_or wide (place / 64) 0) (1 * 2 ^ (place % 64) % 2 ^ 64)) 0 within

    kept : (place ≡ q → ⊥) → (b : Bool) → b ≡ (eqb place q || b)
    kept ne b = ap (λ t. t || b) (sym (ne_eqb place q ne))

    by : (q / 64 ≡ place / 64) ⊎ (q / 64 ≡ place / 64 → ⊥) → (q % 64 ≡ place % 64) ⊎ (q % 64 ≡ place % 64 → ⊥)
        → eqb (bit_at (get_or (set wide (place / 64) (bit_or (get_or wide (place / 64) 0) (1 * 2 ^ (place % 64) % 2 ^ 64))) (q / 64) 0) (q % 64)) 1 ≡ (eqb place q || eqb (bit_at (get_or row (q / 64) 0) (q % 64)) 1)
    by (inl e) (inl f) =
        ap (λ (n : ℕ). eqb (bit_at n (q % 64)) 1) (here e)
        ∙ ap (λ (n : ℕ). eqb (bit_at (bit_or (get_or wide (place / 64) 0) (1 * 2 ^ (place % 64) % 2 ^ 64)) n) 1) f
        ∙ ap (λ (n : ℕ). eqb n 1) (bit_at_set_same w64 (get_or wide (place / 64) 0) (place % 64) (omega arith))
        ∙ sym (ap (λ t. t || eqb (bit_at (get_or row (q / 64) 0) (q % 64)) 1) (ap (λ (n : ℕ). eqb n q) (let same_place : place ≡ q = omega arith in same_place) ∙ eqb_yes q))
    by (inl e) (inr ne) =
        ap (λ (n : ℕ). eqb (bit_at n (q % 64)) 1) (here e)
        ∙ ap (λ (n : ℕ). eqb n 1) (bit_at_set_other w64 (get_or wide (place / 64) 0) (place % 64) (omega arith) (q % 64) ne)
        ∙ ap (λ (n : ℕ). eqb (bit_at n (q % 64)) 1) (same (place / 64) ∙ ap (λ (n : ℕ). get_or row n 0) (sym e))
        ∙ kept (λ h. ne (ap (λ (n : ℕ). n % 64) (sym h))) (eqb (bit_at (get_or row (q / 64) 0) (q % 64)) 1)
    by (inr ne) f =
        ap (λ (n : ℕ). eqb (bit_at n (q % 64)) 1) (get_or-set_other wide (place / 64) (q / 64) (bit_or (get_or wide (place / 64) 0) (1 * 2 ^ (place % 64) % 2 ^ 64)) 0 ne ∙ same (q / 64))
        ∙ kept (λ h. ne (ap (λ (n : ℕ). n / 64) (sym h))) (eqb (bit_at (get_or row (q / 64) 0) (q % 64)) 1)

pub has-set : (row wide : List ℕ) (place q word : ℕ) → ((k : ℕ) → get_or wide k 0 ≡ get_or row k 0) → place / 64 < length wide → word ≡ get_or wide (place / 64) word
    → has (set wide (place / 64) (bit_or word (1 * 2 ^ (place % 64) % 2 ^ 64))) q ≡ (eqb place q || has row q)
has-set row wide place q word same within is =
    ap (λ (n : ℕ). has (set wide (place / 64) (bit_or n (1 * 2 ^ (place % 64) % 2 ^ 64))) q) (is ∙ get_or_default_zero wide (place / 64) word within)
    ∙ has-set_word row wide place q same within

-- ---- a bit that is cleared

has-clear_word : (row : List ℕ) (place q : ℕ) → place / 64 < length row
    → has (set row (place / 64) (bit_and (get_or row (place / 64) 0) (2 ^ 64 - 1 - 1 * 2 ^ (place % 64) % 2 ^ 64))) q ≡ (not (eqb place q) && has row q)
unfolding has
has-clear_word row place q within = by (cases_eq (q / 64) (place / 64)) (cases_eq (q % 64) (place % 64))
  where
    here : q / 64 ≡ place / 64 → get_or (set row (place / 64) (bit_and (get_or row (place / 64) 0) (2 ^ 64 - 1 - 1 * 2 ^ (place % 64) % 2 ^ 64))) (q / 64) 0 ≡ bit_and (get_or row (place / 64) 0) (2 ^ 64 - 1 - 1 * 2 ^ (place % 64) % 2 ^ 64)
    here e = ap (λ (n : ℕ). get_or (set row (place / 64) (bit_and (get_or row (place / 64) 0) (2 ^ 64 - 1 - 1 * 2 ^ (place % 64) % 2 ^ 64))) n 0) e ∙ get_or-set_same row (place / 64) (bit_and (get_or row (place / 64) 0) (2 ^ 64 - 1 - 1 * 2 ^ (place % 64) % 2 ^ 64)) 0 within

    kept : (place ≡ q → ⊥) → (b : Bool) → b ≡ (not (eqb place q) && b)
    kept ne b = ap (λ t. not t && b) (sym (ne_eqb place q ne))

    by : (q / 64 ≡ place / 64) ⊎ (q / 64 ≡ place / 64 → ⊥) → (q % 64 ≡ place % 64) ⊎ (q % 64 ≡ place % 64 → ⊥)
        → eqb (bit_at (get_or (set row (place / 64) (bit_and (get_or row (place / 64) 0) (2 ^ 64 - 1 - 1 * 2 ^ (place % 64) % 2 ^ 64))) (q / 64) 0) (q % 64)) 1 ≡ (not (eqb place q) && eqb (bit_at (get_or row (q / 64) 0) (q % 64)) 1)
    by (inl e) (inl f) =
        ap (λ (n : ℕ). eqb (bit_at n (q % 64)) 1) (here e)
        ∙ ap (λ (n : ℕ). eqb (bit_at (bit_and (get_or row (place / 64) 0) (2 ^ 64 - 1 - 1 * 2 ^ (place % 64) % 2 ^ 64)) n) 1) f
        ∙ ap (λ (n : ℕ). eqb n 1) (bit_at_clear_same w64 (get_or row (place / 64) 0) (place % 64) (omega arith))
        ∙ sym (ap (λ t. not t && eqb (bit_at (get_or row (q / 64) 0) (q % 64)) 1) (ap (λ (n : ℕ). eqb n q) (let same_place : place ≡ q = omega arith in same_place) ∙ eqb_yes q))
    by (inl e) (inr ne) =
        ap (λ (n : ℕ). eqb (bit_at n (q % 64)) 1) (here e)
        ∙ ap (λ (n : ℕ). eqb n 1) (bit_at_clear_other w64 (get_or row (place / 64) 0) (place % 64) (omega arith) (q % 64) (omega arith) ne)
        ∙ ap (λ (n : ℕ). eqb (bit_at (get_or row n 0) (q % 64)) 1) (sym e)
        ∙ kept (λ h. ne (ap (λ (n : ℕ). n % 64) (sym h))) (eqb (bit_at (get_or row (q / 64) 0) (q % 64)) 1)
    by (inr ne) f =
        ap (λ (n : ℕ). eqb (bit_at n (q % 64)) 1) (get_or-set_other row (place / 64) (q / 64) (bit_and (get_or row (place / 64) 0) (2 ^ 64 - 1 - 1 * 2 ^ (place % 64) % 2 ^ 64)) 0 ne)
        ∙ kept (λ h. ne (ap (λ (n : ℕ). n / 64) (sym h))) (eqb (bit_at (get_or row (q / 64) 0) (q % 64)) 1)

pub has-clear : (row : List ℕ) (place q word : ℕ) → place / 64 < length row → word ≡ get_or row (place / 64) word
    → has (set row (place / 64) (bit_and word (2 ^ 64 - 1 - 1 * 2 ^ (place % 64) % 2 ^ 64))) q ≡ (not (eqb place q) && has row q)
has-clear row place q word within is =
    ap (λ (n : ℕ). has (set row (place / 64) (bit_and n (2 ^ 64 - 1 - 1 * 2 ^ (place % 64) % 2 ^ 64))) q) (is ∙ get_or_default_zero row (place / 64) word within)
    ∙ has-clear_word row place q within

-- ---- all bits

pub has-full : (n q : ℕ) → q / 64 < n → has (replicate n (2 ^ 64 - 1)) q ≡ true
unfolding has
has-full n q within =
    ap (λ (m : ℕ). eqb (bit_at m (q % 64)) 1) (get_or-replicate n (q / 64) (2 ^ 64 - 1) 0 within) ∙ ap (λ (m : ℕ). eqb m 1) (bit_at_ones 64 (q % 64) (omega arith))

-- no bit
pub has-empty : (n q : ℕ) → has (replicate n 0) q ≡ false
unfolding has
has-empty n q = by (cases_lt (q / 64) n)
  where
    by : (q / 64 < n) ⊎ (n ≤ q / 64) → eqb (bit_at (get_or (replicate n 0) (q / 64) 0) (q % 64)) 1 ≡ false
    by (inl lt) = ap (λ (m : ℕ). eqb (bit_at m (q % 64)) 1) (get_or-replicate n (q / 64) 0 0 lt) ∙ ap (λ (m : ℕ). eqb m 1) (bit_at-zero (q % 64))
    by (inr ge) = ap (λ (m : ℕ). eqb (bit_at m (q % 64)) 1) (get_or_past (replicate n 0) (q / 64) 0 (omega (arith, ge, length-replicate {A = ℕ} n 0))) ∙ ap (λ (m : ℕ). eqb m 1) (bit_at-zero (q % 64))

-- ---- the next bit

is_one : (n : ℕ) → 0 < n → n < 2 → eqb n 1 ≡ true
is_one n low high = ap (λ (m : ℕ). eqb m 1) (let e : n ≡ 1 = omega arith in e)

pub has-past : (row : List ℕ) (q : ℕ) → length row ≤ q / 64 → has row q ≡ false
unfolding has
has-past row q le = ap (λ (n : ℕ). eqb (bit_at n (q % 64)) 1) (get_or_past row (q / 64) 0 le) ∙ ap (λ (n : ℕ). eqb n 1) (bit_at-zero (q % 64))

has-zero : (row : List ℕ) (q : ℕ) → bit_at (get_or row (q / 64) 0) (q % 64) ≡ 0 → has row q ≡ false
unfolding has
has-zero row q e = ap (λ (n : ℕ). eqb n 1) e

has-one : (row : List ℕ) (w i : ℕ) → i < 64 → 0 < bit_at (get_or row w 0) i → has row (64 * w + i) ≡ true
unfolding has
has-one row w i lt low =
    ap (λ (n : ℕ). eqb (bit_at (get_or row n 0) ((64 * w + i) % 64)) 1) (let e : (64 * w + i) / 64 ≡ w = omega arith in e)
    ∙ ap (λ (n : ℕ). eqb (bit_at (get_or row w 0) n) 1) (let e : (64 * w + i) % 64 ≡ i = omega arith in e)
    ∙ is_one (bit_at (get_or row w 0) i) low (bit_at-lt (get_or row w 0) i)

-- the bits of a word from a place on
abbrev rest_of : List ℕ → ℕ → ℕ
rest_of row from = bit_and (get_or row (from / 64) 0) ((2 ^ 64 - 1) * 2 ^ (from % 64) % 2 ^ 64)

rest-bit : (row : List ℕ) (from i : ℕ) → bit_at (rest_of row from) i ≡ min (bit_at (get_or row (from / 64) 0) i) (bit_at (2 ^ 64 - 2 ^ (from % 64)) i)
rest-bit row from i =
    bit_at_and (get_or row (from / 64) 0) ((2 ^ 64 - 1) * 2 ^ (from % 64) % 2 ^ 64) i
    ∙ ap (λ (n : ℕ). min (bit_at (get_or row (from / 64) 0) i) (bit_at n i)) (ones_shl 64 (from % 64) (omega arith))

-- a place of that word where the rest has no bit
rest-zero : (row : List ℕ) (from q : ℕ) → from ≤ q → q / 64 ≡ from / 64 → bit_at (rest_of row from) (q % 64) ≡ 0 → has row q ≡ false
rest-zero row from q le same e =
    let inside = bit_at_mask_inside (from % 64) 64 (q % 64) (omega arith) (omega arith) in
    has-zero row q (ap (λ (n : ℕ). bit_at (get_or row n 0) (q % 64)) same ∙ (let z : bit_at (get_or row (from / 64) 0) (q % 64) ≡ 0 = omega (arith, rest-bit row from (q % 64), inside, e, bit_at-lt (get_or row (from / 64) 0) (q % 64)) in z))

pub rest-none : (row : List ℕ) (from q : ℕ) → rest_of row from ≡ 0 → from ≤ q → q / 64 < from / 64 + 1 → has row q ≡ false
rest-none row from q none le lt = rest-zero row from q le (omega arith) (ap (λ (n : ℕ). bit_at n (q % 64)) none ∙ bit_at-zero (q % 64))

pub rest-some : (row : List ℕ) (from : ℕ) → (rest_of row from ≡ 0 → ⊥) → IsNextBit row from (Some (64 * (from / 64) + trailing_zeros w64 (rest_of row from)))
rest-some row from ne =
    let rest : ℕ = rest_of row from in
    let t : ℕ = trailing_zeros w64 rest in
    let below : rest < 2 ^ 64 = omega (arith, and_le_r (get_or row (from / 64) 0) ((2 ^ 64 - 1) * 2 ^ (from % 64) % 2 ^ 64)) in
    let zeros = bit_at-trailing_zeros w64 rest (omega (arith, ne)) below in
    let first : from % 64 ≤ t = not_below (cases_lt t (from % 64)) zeros.1 in (
      omega (arith, first),
      has-one row (from / 64) t zeros.0 (omega (arith, rest-bit row from t, zeros.1)),
      λ q le lt. rest-zero row from q le (omega (arith, zeros.0)) (zeros.2 (q % 64) (omega (arith, zeros.0))),
    )
  where
    not_below : (trailing_zeros w64 (rest_of row from) < from % 64) ⊎ (from % 64 ≤ trailing_zeros w64 (rest_of row from)) → bit_at (rest_of row from) (trailing_zeros w64 (rest_of row from)) ≡ 1 → from % 64 ≤ trailing_zeros w64 (rest_of row from)
    not_below (inr ge) one = ge
    not_below (inl lt) one = absurd (omega (arith, one, rest-bit row from (trailing_zeros w64 (rest_of row from)), bit_at_mask_below (from % 64) 64 (trailing_zeros w64 (rest_of row from)) lt))

pub word-some : (row : List ℕ) (from next : ℕ) → from / 64 < next → ((q : ℕ) → from ≤ q → q / 64 < next → has row q ≡ false) → (get_or row next 0 ≡ 0 → ⊥) → get_or row next 0 < 2 ^ 64
    → IsNextBit row from (Some (64 * next + trailing_zeros w64 (get_or row next 0)))
word-some row from next later clear ne below =
    let zeros = bit_at-trailing_zeros w64 (get_or row next 0) (omega (arith, ne)) below in (
      omega arith,
      has-one row next (trailing_zeros w64 (get_or row next 0)) zeros.0 (omega (arith, zeros.1)),
      λ q le lt. by q le (cases_lt (q / 64) next) (λ same. has-zero row q (ap (λ (n : ℕ). bit_at (get_or row n 0) (q % 64)) same ∙ zeros.2 (q % 64) (omega (arith, zeros.0)))) (omega (arith, zeros.0)),
    )
  where
    by : (q : ℕ) → from ≤ q → (q / 64 < next) ⊎ (next ≤ q / 64) → (q / 64 ≡ next → has row q ≡ false) → q / 64 ≤ next → has row q ≡ false
    by q le (inl lt) here most = clear q le lt
    by q le (inr ge) here most = here (omega arith)

pub word-none : (row : List ℕ) (from next : ℕ) → ((q : ℕ) → from ≤ q → q / 64 < next → has row q ≡ false) → get_or row next 0 ≡ 0 → (q : ℕ) → from ≤ q → q / 64 < next + 1 → has row q ≡ false
word-none row from next clear none q le lt = by (cases_lt (q / 64) next)
  where
    by : (q / 64 < next) ⊎ (next ≤ q / 64) → has row q ≡ false
    by (inl before) = clear q le before
    by (inr ge) = has-zero row q (ap (λ (n : ℕ). bit_at (get_or row n 0) (q % 64)) (let e : q / 64 ≡ next = omega arith in e) ∙ ap (λ (n : ℕ). bit_at n (q % 64)) none ∙ bit_at-zero (q % 64))

pub all-none : (row : List ℕ) (from next : ℕ) → ((q : ℕ) → from ≤ q → q / 64 < next → has row q ≡ false) → length row ≤ next → (q : ℕ) → from ≤ q → has row q ≡ false
all-none row from next clear end q le = by (cases_lt (q / 64) next)
  where
    by : (q / 64 < next) ⊎ (next ≤ q / 64) → has row q ≡ false
    by (inl before) = clear q le before
    by (inr ge) = has-past row q (omega arith)

-- ---- rows in common

abbrev pub word_of : List ℕ → List ℕ → List ℕ → ℕ → ℕ
word_of xs ys zs k = bit_and (bit_and (get_or xs k 0) (get_or ys k 0)) (get_or zs k 0)

bit_of_word : (xs ys zs : List ℕ) (k i : ℕ) → bit_at (word_of xs ys zs k) i ≡ min (min (bit_at (get_or xs k 0) i) (bit_at (get_or ys k 0) i)) (bit_at (get_or zs k 0) i)
bit_of_word xs ys zs k i =
    bit_at_and (bit_and (get_or xs k 0) (get_or ys k 0)) (get_or zs k 0) i
    ∙ ap (λ (n : ℕ). min n (bit_at (get_or zs k 0) i)) (bit_at_and (get_or xs k 0) (get_or ys k 0) i)

-- a word that isn't 0 has a place of all three
pub common-at : (xs ys zs : List ℕ) (k : ℕ) → (word_of xs ys zs k ≡ 0 → ⊥) → get_or xs k 0 < 2 ^ 64 → IsCommon xs ys zs
unfolding has
common-at xs ys zs k ne lt =
    let n : ℕ = word_of xs ys zs k in
    let below : n < 2 ^ 64 = omega (arith, and_le_l (bit_and (get_or xs k 0) (get_or ys k 0)) (get_or zs k 0), and_le_l (get_or xs k 0) (get_or ys k 0)) in
    let zeros = bit_at-trailing_zeros w64 n (omega (arith, ne)) below in
    let i : ℕ = trailing_zeros w64 n in
    let word : (k * 64 + i) / 64 ≡ k = omega (arith, zeros.0) in
    let bit : (k * 64 + i) % 64 ≡ i = omega (arith, zeros.0) in
    let one : min (min (bit_at (get_or xs k 0) i) (bit_at (get_or ys k 0) i)) (bit_at (get_or zs k 0) i) ≡ 1 = sym (bit_of_word xs ys zs k i) ∙ zeros.1 in
    let has_it : (row : List ℕ) → 0 < bit_at (get_or row k 0) i → has row (k * 64 + i) ≡ true =
    λ row low. ap (λ (m : ℕ). eqb (bit_at (get_or row m 0) ((k * 64 + i) % 64)) 1) word ∙ ap (λ (m : ℕ). eqb (bit_at (get_or row k 0) m) 1) bit ∙ is_one (bit_at (get_or row k 0) i) low (bit_at-lt (get_or row k 0) i) in (
      k * 64 + i,
      ap (λ b. b && (has ys (k * 64 + i) && has zs (k * 64 + i))) (has_it xs (omega arith))
          ∙ ap (λ b. b && has zs (k * 64 + i)) (has_it ys (omega arith)) ∙ has_it zs (omega arith),
    )

none_of : (a b c : ℕ) → a < 2 → b < 2 → c < 2 → min (min a b) c ≡ 0 → (eqb a 1 && (eqb b 1 && eqb c 1)) ≡ false
none_of zero b c la lb lc e = refl
none_of (suc zero) zero c la lb lc e = refl
none_of (suc zero) (suc zero) zero la lb lc e = refl
none_of (suc zero) (suc zero) (suc c) la lb lc e = absurd (omega arith)
none_of (suc zero) (suc (suc b)) c la lb lc e = absurd (omega arith)
none_of (suc (suc a)) b c la lb lc e = absurd (omega arith)

-- where each word is 0 no place is in all three
pub none-common : (xs ys zs : List ℕ) → ((k : ℕ) → word_of xs ys zs k ≡ 0) → HasNone xs ys zs
unfolding has
none-common xs ys zs zeros = λ q.
    none_of (bit_at (get_or xs (q / 64) 0) (q % 64)) (bit_at (get_or ys (q / 64) 0) (q % 64)) (bit_at (get_or zs (q / 64) 0) (q % 64))
    (bit_at-lt (get_or xs (q / 64) 0) (q % 64)) (bit_at-lt (get_or ys (q / 64) 0) (q % 64)) (bit_at-lt (get_or zs (q / 64) 0) (q % 64))
    (sym (bit_of_word xs ys zs (q / 64) (q % 64)) ∙ ap (λ (n : ℕ). bit_at n (q % 64)) (zeros (q / 64)) ∙ bit_at-zero (q % 64))

-- behind the last word of one of them there is nothing
pub zeros-behind : (xs ys zs : List ℕ) (n : ℕ) → ((length xs ≤ n) ⊎ (length ys ≤ n)) ⊎ (length zs ≤ n) → ((k : ℕ) → k < n → word_of xs ys zs k ≡ 0) → (k : ℕ) → word_of xs ys zs k ≡ 0
zeros-behind xs ys zs n ends below k = by (cases_lt k n) ends
  where
    past : (row : List ℕ) → n ≤ k → length row ≤ n → get_or row k 0 ≡ 0
    past row ge le = get_or_past row k 0 (omega arith)

    by : (k < n) ⊎ (n ≤ k) → ((length xs ≤ n) ⊎ (length ys ≤ n)) ⊎ (length zs ≤ n) → word_of xs ys zs k ≡ 0
    by (inl lt) e = below k lt
    by (inr ge) (inl (inl le)) = omega (arith, past xs ge le, and_le_l (bit_and (get_or xs k 0) (get_or ys k 0)) (get_or zs k 0), and_le_l (get_or xs k 0) (get_or ys k 0))
    by (inr ge) (inl (inr le)) = omega (arith, past ys ge le, and_le_l (bit_and (get_or xs k 0) (get_or ys k 0)) (get_or zs k 0), and_le_r (get_or xs k 0) (get_or ys k 0))
    by (inr ge) (inr le) = omega (arith, past zs ge le, and_le_r (bit_and (get_or xs k 0) (get_or ys k 0)) (get_or zs k 0))

pub least_end : (x y z n : ℕ) → min (min x y) z ≤ n → ((x ≤ n) ⊎ (y ≤ n)) ⊎ (z ≤ n)
least_end x y z n le = by (cases_lt n x) (cases_lt n y)
  where
    by : (n < x) ⊎ (x ≤ n) → (n < y) ⊎ (y ≤ n) → ((x ≤ n) ⊎ (y ≤ n)) ⊎ (z ≤ n)
    by (inr h) k = inl (inl h)
    by (inl h) (inr k) = inl (inr k)
    by (inl h) (inl k) = inr (omega arith)

-- ---- a row under a row of its words

pub has-zero_word : (row : List ℕ) (q : ℕ) → get_or row (q / 64) 0 ≡ 0 → has row q ≡ false
has-zero_word row q e = has-zero row q (ap (λ (n : ℕ). bit_at n (q % 64)) e ∙ bit_at-zero (q % 64))
