-- Numbers and the bytes that spell them, and fields of a list. Other crates cite this module.
use Rattle.std.proofs.Common.{◌≡◌, ℕ, zero, suc, ◌+◌, ◌-◌, ◌*◌, ◌/◌, ◌%◌, ◌^◌, ◌<◌, ◌≤◌, List, [], ◌∷◌, ◌++◌, length, append_assoc, take, drop, length-drop, refl, sym, ◌∙◌, ap, subst, arith, get_or, ltb, lit<}
use Rattle.std.proofs.lemmas.Nat.{div-mul-add, pow-add}
use lib.Arith.{mod-mul}
use Rattle.std.proofs.lemmas.List.{take_at, drop_at, length-take-le, take-append-drop, drop-drop, get_or-drop, drop_more}
use Rattle.std.proofs.Math.Nat.{div-div-eq-div-mul, mul-le-mul_right, mul-add-div_right, mul-add-mod_self_right, mod-eq_of_lt, mul_assoc}
use Rattle.std.proofs.lemmas.Grind.{pow_more}
use Rattle.std.specs.List.{AllPass}
use Rattle.std.proofs.lemmas.Bool.{lt-ltb}
use Rattle.std.specs.Int.{bytes_low_first, byte_at}
use Rattle.fab_base.specs.Layout.{field, byte, big_endian, little_endian, number, spelled, spelled_low}

pub length-spelled : (k n : ℕ) → length (spelled k n) ≡ k
length-spelled zero n = refl
length-spelled (suc k) n = let h = length-spelled k n in omega arith

pub length-spelled_low : (k n : ℕ) → length (spelled_low k n) ≡ k
length-spelled_low k n = length_low 0 k n
  where
    length_low : (i k n : ℕ) → length (bytes_low_first i k n) ≡ k
    length_low i zero n = refl
    length_low i (suc k) n = let h = length_low (suc i) k n in omega arith

pub pow_pos_256 : (k : ℕ) → 0 < 256 ^ k
pow_pos_256 zero = omega arith
pow_pos_256 (suc k) = let h = pow_pos_256 k in let e : 256 ^ suc k ≡ 256 ^ k * 256 = grind arith in omega (arith, e)

-- byte k of a number
byte_at-is : (k n : ℕ) → byte_at k n ≡ n / 256 ^ k % 256
byte_at-is zero n = omega arith
byte_at-is (suc k) n = refl

-- the bytes of a number spell its rest by a power of 256
pub big_endian-spelled_mod : (k n : ℕ) → big_endian (spelled k n) ≡ n % 256 ^ k
big_endian-spelled_mod zero n = omega arith
big_endian-spelled_mod (suc k) n =
    let split : n % (256 * 256 ^ k) ≡ (n / 256 ^ k % 256) * 256 ^ k + n % 256 ^ k = mod-mul n {m = 256} {c = 256 ^ k} (lit< tt) (pow_pos_256 k) in
    let more : 256 ^ suc k ≡ 256 * 256 ^ k = grind arith in
    ap (λ (m : ℕ). byte_at k n * 256 ^ m + big_endian (spelled k n)) (length-spelled k n)
    ∙ ap (λ (b : ℕ). b * 256 ^ k + big_endian (spelled k n)) (byte_at-is k n)
    ∙ ap (λ (r : ℕ). (n / 256 ^ k % 256) * 256 ^ k + r) (big_endian-spelled_mod k n)
    ∙ sym split ∙ ap (λ (m : ℕ). n % m) (sym more)

-- a number that fits is what its bytes spell
pub big_endian-spelled : (k n : ℕ) → n < 256 ^ k → big_endian (spelled k n) ≡ n
big_endian-spelled k n fits = big_endian-spelled_mod k n ∙ mod-eq_of_lt fits

pub little_endian-spelled_mod : (i k n : ℕ) → little_endian (bytes_low_first i k n) ≡ n / 256 ^ i % 256 ^ k
little_endian-spelled_mod i zero n = omega arith
little_endian-spelled_mod i (suc k) n =
    let m : ℕ = n / 256 ^ i in
    let split : m % (256 ^ k * 256) ≡ (m / 256 % 256 ^ k) * 256 + m % 256 = mod-mul m {m = 256 ^ k} {c = 256} (pow_pos_256 k) (lit< tt) in
    let more : 256 ^ suc k ≡ 256 ^ k * 256 = grind arith in
    let next : 256 ^ suc i ≡ 256 ^ i * 256 = grind arith in
    let shifted : n / 256 ^ suc i ≡ m / 256 = ap (λ (d : ℕ). n / d) next ∙ sym (div-div-eq-div-mul n (256 ^ i) 256) in
    ap (λ (r : ℕ). byte_at i n + 256 * r) (little_endian-spelled_mod (suc i) k n ∙ ap (λ (d : ℕ). d % 256 ^ k) shifted)
    ∙ ap (λ (b : ℕ). b + 256 * (m / 256 % 256 ^ k)) (byte_at-is i n)
    ∙ (let e : m % 256 + 256 * (m / 256 % 256 ^ k) ≡ (m / 256 % 256 ^ k) * 256 + m % 256 = omega arith in e)
    ∙ sym split ∙ ap (λ (d : ℕ). m % d) (sym more)

pub little_endian-spelled : (k n : ℕ) → n < 256 ^ k → little_endian (spelled_low k n) ≡ n
little_endian-spelled k n fits = little_endian-spelled_mod 0 k n ∙ ap (λ (m : ℕ). m % 256 ^ k) (let one : n / 1 ≡ n = omega arith in one) ∙ mod-eq_of_lt fits

-- ---- bytes are what their number spells

abbrev pub AreBytes : List ℕ → Type 0
AreBytes l = (i : ℕ) → get_or l i 0 < 256

tail_bytes : (b : ℕ) (l : List ℕ) → AreBytes (b ∷ l) → AreBytes l
tail_bytes b l bytes i = bytes (suc i)

pub big_endian-fits : (l : List ℕ) → AreBytes l → big_endian l < 256 ^ length l
big_endian-fits [] bytes = lit< tt
big_endian-fits (b ∷ l) bytes =
    let rest = big_endian-fits l (tail_bytes b l bytes) in
    let first : b < 256 = bytes 0 in
    let more : 256 ^ suc (length l) ≡ 256 * 256 ^ length l = grind arith in
    let room : b * 256 ^ length l + 256 ^ length l ≤ 256 * 256 ^ length l = let step : (b + 1) * 256 ^ length l ≤ 256 * 256 ^ length l = mul-le-mul_right (256 ^ length l) (omega arith) in let split : (b + 1) * 256 ^ length l ≡ b * 256 ^ length l + 256 ^ length l = grind arith in omega (arith, step, split) in
    omega (arith, rest, room, more)

-- a multiple of a higher power of 256 changes no byte below it
byte_at-more : (j k a r : ℕ) → j < k → byte_at j (a * 256 ^ k + r) ≡ byte_at j r
byte_at-more j k a r lt =
    let d = k - j - 1 in
    let whole : 256 ^ k ≡ 256 ^ d * 256 * 256 ^ j = ap (λ (m : ℕ). 256 ^ m) (let e : k ≡ d + 1 + j = omega arith in e) ∙ pow-add 256 (d + 1) j ∙ ap (λ (m : ℕ). m * 256 ^ j) (pow_more 256 d) in
    let cut : (a * (256 ^ d * 256) * 256 ^ j + r) / 256 ^ j ≡ a * (256 ^ d * 256) + r / 256 ^ j = mul-add-div_right (pow_pos_256 j) (a * (256 ^ d * 256)) r in
    let same : a * 256 ^ k + r ≡ a * (256 ^ d * 256) * 256 ^ j + r = ap (λ (m : ℕ). a * m + r) whole ∙ ap (λ (m : ℕ). m + r) (sym (mul_assoc a (256 ^ d * 256) (256 ^ j))) in
    byte_at-is j (a * 256 ^ k + r) ∙ ap (λ (m : ℕ). m / 256 ^ j % 256) same ∙ ap (λ (m : ℕ). m % 256) (cut ∙ ap (λ (m : ℕ). m + r / 256 ^ j) (sym (mul_assoc a (256 ^ d) 256)))
    ∙ mul-add-mod_self_right (a * 256 ^ d) 256 (r / 256 ^ j) ∙ sym (byte_at-is j r)

spelled-more : (j k a r : ℕ) → j ≤ k → spelled j (a * 256 ^ k + r) ≡ spelled j r
spelled-more zero k a r le = refl
spelled-more (suc j) k a r le = ap (λ (b : ℕ). b ∷ spelled j (a * 256 ^ k + r)) (byte_at-more j k a r (omega arith)) ∙ ap (λ l. byte_at j r ∷ l) (spelled-more j k a r (omega arith))

pub spelled-big_endian : (l : List ℕ) → AreBytes l → spelled (length l) (big_endian l) ≡ l
spelled-big_endian [] bytes = refl
spelled-big_endian (b ∷ l) bytes =
    let k = length l in
    let rest = big_endian-fits l (tail_bytes b l bytes) in
    let top : byte_at k (b * 256 ^ k + big_endian l) ≡ b = byte_at-is k (b * 256 ^ k + big_endian l) ∙ ap (λ (d : ℕ). d % 256) (div-mul-add b (256 ^ k) (big_endian l) rest) ∙ (let first : b < 256 = bytes 0 in let e : b % 256 ≡ b = omega arith in e) in
    ap (λ (d : ℕ). d ∷ spelled k (b * 256 ^ k + big_endian l)) top
    ∙ ap (λ m. b ∷ m) (spelled-more k k b (big_endian l) (omega arith) ∙ spelled-big_endian l (tail_bytes b l bytes))

-- ---- fields

-- the field behind a front of that length
pub field-append : (front mid rest : List ℕ) (from count : ℕ) → length front ≡ from → length mid ≡ count → field (front ++ mid ++ rest) from count ≡ mid
field-append front mid rest from count is_from is_count =
    ap (take count) (ap (drop from) (append_assoc front mid rest) ∙ drop_at front (mid ++ rest) from is_from) ∙ take_at mid rest count is_count

-- a number that was spelled behind a front of that length
pub number-append : (front rest : List ℕ) (from count n : ℕ) → length front ≡ from → n < 256 ^ count → number (front ++ spelled count n ++ rest) from count ≡ n
number-append front rest from count n is_from fits =
    ap big_endian (field-append front (spelled count n) rest from count is_from (length-spelled count n)) ∙ big_endian-spelled count n fits

-- a list in front of what is behind a place
pub take-field : (l : List ℕ) (from count : ℕ) → drop from l ≡ field l from count ++ drop (from + count) l
take-field l from count = sym (take-append-drop count (drop from l)) ∙ ap (λ m. field l from count ++ m) (drop-drop count from l)

pub length-field : (l : List ℕ) (from count : ℕ) → from + count ≤ length l → length (field l from count) ≡ count
length-field l from count fits = length-take-le count (drop from l) (omega (arith, length-drop from l))

bytes_of_front : (count : ℕ) (l : List ℕ) → AreBytes l → (i : ℕ) → get_or (take count l) i 0 < 256
bytes_of_front zero l bytes i = lit< tt
bytes_of_front (suc count) [] bytes i = lit< tt
bytes_of_front (suc count) (b ∷ l) bytes zero = bytes 0
bytes_of_front (suc count) (b ∷ l) bytes (suc i) = bytes_of_front count l (tail_bytes b l bytes) i

-- a field of bytes
pub bytes_of_field : (l : List ℕ) (from count : ℕ) → AreBytes l → AreBytes (field l from count)
bytes_of_field l from count bytes = bytes_of_front count (drop from l) (λ i. omega (arith, get_or-drop from l i 0, bytes (from + i)))

-- what is behind a place is a number of so many bytes and the rest
pub cut_number : (l : List ℕ) (from count : ℕ) → AreBytes l → from + count ≤ length l → drop from l ≡ spelled count (number l from count) ++ drop (from + count) l
cut_number l from count bytes long =
    let spells : spelled count (number l from count) ≡ field l from count =
    ap (λ (k : ℕ). spelled k (number l from count)) (sym (length-field l from count long)) ∙ spelled-big_endian (field l from count) (bytes_of_field l from count bytes) in
    take-field l from count ∙ ap (λ m. m ++ drop (from + count) l) (sym spells)

-- what is behind a place is a byte and the rest
pub cut_byte : (l : List ℕ) (from : ℕ) → from + 1 ≤ length l → drop from l ≡ byte l from ∷ drop (from + 1) l
cut_byte l from long = drop_more l from 0 (omega arith)

-- a number of so many bytes fits them
pub number_fits : (l : List ℕ) (from count : ℕ) → AreBytes l → from + count ≤ length l → number l from count < 256 ^ count
number_fits l from count bytes long =
    subst (λ (k : ℕ). number l from count < 256 ^ k) (length-field l from count long) (big_endian-fits (field l from count) (bytes_of_field l from count bytes))

-- the same as a test of each
pub all_bytes : (l : List ℕ) → AreBytes l → AllPass (λ b. ltb b 256) l
all_bytes [] bytes k d lt = absurd (omega arith)
all_bytes (x ∷ l) bytes zero d lt = lt-ltb x 256 (bytes 0)
all_bytes (x ∷ l) bytes (suc k) d lt = all_bytes l (λ i. bytes (suc i)) k d (omega arith)

-- ---- what is appended in several steps

pub appended_two : {A : Type 0} (old a b s t : List A) → s ≡ old ++ a → t ≡ s ++ b → t ≡ old ++ (a ++ b)
appended_two old a b s t first second = second ∙ ap (λ m. m ++ b) first ∙ append_assoc old a b

pub appended_three : {A : Type 0} (old a b c s t u : List A) → s ≡ old ++ a → t ≡ s ++ b → u ≡ t ++ c → u ≡ old ++ (a ++ b ++ c)
appended_three old a b c s t u first second third = appended_two old (a ++ b) c t u (appended_two old a b s t first second) third
