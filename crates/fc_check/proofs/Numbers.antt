-- Bits as a number.
use Rattle.std.proofs.Common.{◌≡◌, ℕ, zero, suc, ◌+◌, ◌*◌, ◌/◌, ◌==◌, ◌%◌, ◌^◌, ◌<◌, ◌≤◌, Bool, true, false, not, cond, List, [], ◌∷◌, ◌++◌, length, map, replicate, bit_xor, refl, sym, ap, ◌∙◌, arith}
use Rattle.std.proofs.lemmas.Nat.{xor_block}
use Rattle.std.proofs.Math.Nat.{mul_assoc}
use Rattle.fc_check.specs.Crc.{is_odd, bits_of, plus, added, number_of}

abbrev digit : Bool → ℕ
digit b = cond b 1 0

digit_lt : (b : Bool) → digit b < 2
digit_lt false = omega arith
digit_lt true = omega arith

-- bits spell a number below this power
pub number_of-lt : (xs : List Bool) → number_of xs < 2 ^ length xs
number_of-lt [] = omega arith
number_of-lt (x ∷ xs) =
    let rest = number_of-lt xs in
    let more : 2 ^ suc (length xs) ≡ 2 * 2 ^ length xs = grind arith in
    omega (arith, digit_lt x)

pub number_of-append : (xs ys : List Bool) → number_of (xs ++ ys) ≡ number_of xs + 2 ^ length xs * number_of ys
number_of-append [] ys = omega arith
number_of-append (x ∷ xs) ys =
    let rest = number_of-append xs ys in
    let twice : 2 ^ suc (length xs) ≡ 2 * 2 ^ length xs = grind arith in
    let more : 2 ^ suc (length xs) * number_of ys ≡ 2 * (2 ^ length xs * number_of ys) = ap (λ (n : ℕ). n * number_of ys) twice ∙ mul_assoc 2 (2 ^ length xs) (number_of ys) in
    omega arith

pub number_of-none : (n : ℕ) → number_of (replicate n false) ≡ 0
number_of-none zero = refl
number_of-none (suc n) = let rest = number_of-none n in omega arith

digit_xor : (p q : Bool) → bit_xor (digit p) (digit q) ≡ digit (plus p q)
digit_xor false false = refl
digit_xor false true = refl
digit_xor true false = refl
digit_xor true true = refl

-- a sum of bits is the exclusive or of their numbers
pub number_of-added : (xs ys : List Bool) → length xs ≤ length ys → number_of (added xs ys) ≡ bit_xor (number_of xs) (number_of ys)
number_of-added [] ys le = refl
number_of-added (x ∷ xs) [] le = absurd (omega arith)
number_of-added (x ∷ xs) (y ∷ ys) le =
    let rest = number_of-added xs ys (omega arith) in
    let block : bit_xor (number_of xs * 2 ^ 1 + digit x) (number_of ys * 2 ^ 1 + digit y) ≡ bit_xor (number_of xs) (number_of ys) * 2 ^ 1 + bit_xor (digit x) (digit y) =
    xor_block 1 (number_of xs) (number_of ys) (digit x) (digit y) (digit_lt x) (digit_lt y) in
    let left : digit x + 2 * number_of xs ≡ number_of xs * 2 ^ 1 + digit x = omega arith in
    let right : digit y + 2 * number_of ys ≡ number_of ys * 2 ^ 1 + digit y = omega arith in
    let made : digit (plus x y) + 2 * number_of (added xs ys) ≡ bit_xor (number_of xs) (number_of ys) * 2 ^ 1 + bit_xor (digit x) (digit y) = omega (arith, rest, digit_xor x y) in
    made ∙ sym block ∙ sym (ap (λ (n : ℕ). bit_xor n (digit y + 2 * number_of ys)) left ∙ ap (λ (n : ℕ). bit_xor (number_of xs * 2 ^ 1 + digit x) n) right)

digit_not : (x : Bool) → digit (not x) + digit x ≡ 1
digit_not false = refl
digit_not true = refl

-- the complement of bits
pub number_of-not : (xs : List Bool) → number_of (map not xs) + number_of xs + 1 ≡ 2 ^ length xs
number_of-not [] = refl
number_of-not (x ∷ xs) =
    let rest = number_of-not xs in
    let more : 2 ^ suc (length xs) ≡ 2 * 2 ^ length xs = grind arith in
    omega (arith, digit_not x)

-- so many bits of a number, the least significant first
abbrev pub low : ℕ → ℕ → List Bool
low zero n = []
low (suc k) n = is_odd n ∷ low k (n / 2)

is_odd-digit : (x : Bool) (n : ℕ) → is_odd (digit x + 2 * n) ≡ x
is_odd-digit false n = let e : (0 + 2 * n) % 2 ≡ 0 = omega arith in ap (λ (m : ℕ). m == 1) e
is_odd-digit true n = let e : (1 + 2 * n) % 2 ≡ 1 = omega arith in ap (λ (m : ℕ). m == 1) e

-- bits are those of the number that they spell
pub low-number_of : (xs : List Bool) → low (length xs) (number_of xs) ≡ xs
low-number_of [] = refl
low-number_of (x ∷ xs) =
    let half : (digit x + 2 * number_of xs) / 2 ≡ number_of xs = omega (arith, digit_lt x) in
    ap (λ b. b ∷ low (length xs) ((digit x + 2 * number_of xs) / 2)) (is_odd-digit x (number_of xs))
    ∙ ap (λ (n : ℕ). x ∷ low (length xs) n) half ∙ ap (λ l. x ∷ l) (low-number_of xs)

bit_digit : (m : ℕ) → m < 2 → digit (m == 1) ≡ m
bit_digit zero lt = refl
bit_digit (suc zero) lt = refl
bit_digit (suc (suc m)) lt = absurd (omega arith)

pub digit-is_odd : (n : ℕ) → digit (is_odd n) ≡ n % 2
digit-is_odd n = bit_digit (n % 2) (omega arith)

-- the bits of a byte spell it
pub number_of-bits_of : (b : ℕ) → b < 256 → number_of (bits_of b) ≡ b
number_of-bits_of b fits =
    omega (arith, digit-is_odd b, digit-is_odd (b / 2), digit-is_odd (b / 4), digit-is_odd (b / 8), digit-is_odd (b / 16), digit-is_odd (b / 32), digit-is_odd (b / 64), digit-is_odd (b / 128))

pub length-low : (k n : ℕ) → length (low k n) ≡ k
length-low zero n = refl
length-low (suc k) n = ap (λ (m : ℕ). suc m) (length-low k (n / 2))

-- so many bits of a number that needs no more spell it
pub number_of-low : (k n : ℕ) → n < 2 ^ k → number_of (low k n) ≡ n
number_of-low zero n lt = omega arith
number_of-low (suc k) n lt =
    let more : 2 ^ suc k ≡ 2 * 2 ^ k = grind arith in
    let half = number_of-low k (n / 2) (omega arith) in
    omega (arith, half, digit-is_odd n)
