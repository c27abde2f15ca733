-- The words of the tables, a byte and sixteen bytes at once.
use Rattle.std.proofs.Common.{append-nil, drop-drop, ◌≡◌, ℕ, zero, suc, ◌+◌, ◌*◌, ◌/◌, ◌%◌, ◌^◌, ◌<◌, ◌≤◌, Bool, List, [], ◌∷◌, ◌++◌, length, take, drop, map, get_or, bit_xor, bit_and, not, flat_map, refl, sym, ap, subst, ◌∙◌, arith, false, length-drop, length-append, append_assoc, drop-cons, ◌-◌}
use Rattle.std.specs.List.{range_with_len}
use Rattle.std.specs.Int.Bits.{xor_assoc, xor_zero_r}
use Rattle.std.proofs.lemmas.List.{length-take-le, take-append-drop, length-map, length-replicate, replicate-append-replicate, get_or-map}
use Rattle.std.proofs.lemmas.List.FromFn.{get_or-map-range_with_len}
use Rattle.std.proofs.lemmas.Grind.{flat_map-append}
use Rattle.std.proofs.lemmas.Nat.{xor_shr, xor_comm, and_mask}
use Rattle.fc_check.specs.Crc.{bits_of, added, number_of, remainder, crc}
use Rattle.fc_check.specs.Tables.{four_of, four_at, entry, words_of, register_after}
use Rattle.fc_check.specs.declared.table.TheConstants.{AFTER}
use Rattle.fc_check.proofs.Register.{fed, past, length-bits, none, ones, fed-append, fed-zeros, crc-is, length-added, length-fed, fed-before, fed-apart, fed-past, past-sum, length-past, added_none, none_added, added_front, remainder-added}
use Rattle.fc_check.proofs.Numbers.{low, low-number_of, number_of-lt, number_of-append, number_of-not, number_of-added, number_of-bits_of}

-- the register that eight bits leave behind in an empty one
abbrev pub word : ℕ → ℕ
word i = number_of (fed (low 8 i ++ none 24) (none 8))

-- a register as its front of eight bits and its back
record Parts (n : ℕ) (r : List Bool) : Type 0 where
  front : List Bool
  back : List Bool
  is : r ≡ front ++ back
  front_len : length front ≡ 8
  back_len : length back ≡ n
  front_is : number_of front ≡ number_of r % 256
  back_is : number_of back ≡ number_of r / 256

parts_of : (n : ℕ) (r : List Bool) → length r ≡ 8 + n → Parts n r
parts_of n r len =
    let front = take 8 r in
    let back = drop 8 r in
    let is : front ++ back ≡ r = take-append-drop 8 r in
    let front_len : length front ≡ 8 = length-take-le 8 r (omega arith) in
    let whole : number_of r ≡ number_of front + 2 ^ 8 * number_of back = ap number_of (sym is) ∙ number_of-append front back ∙ ap (λ (n : ℕ). number_of front + 2 ^ n * number_of back) front_len in
    let small : number_of front < 2 ^ 8 = subst (λ (n : ℕ). number_of front < 2 ^ n) front_len (number_of-lt front) in
    record { front = front; back = back; is = sym is; front_len = front_len; back_len = omega (arith, length-drop 8 r); front_is = omega arith; back_is = omega arith }

-- a byte turns the register by one word of the table
byte-fed : (r : List Bool) (b : ℕ) → length r ≡ 32 → b < 256 → number_of (fed r (bits_of b)) ≡ bit_xor (word (bit_xor (number_of r) b % 256)) (number_of r / 256)
byte-fed r b len fits =
    let sum : List Bool = added (bits_of b) r in
    let is_sum : number_of sum ≡ bit_xor b (number_of r) = number_of-added (bits_of b) r (omega arith) ∙ ap (λ (n : ℕ). bit_xor n (number_of r)) (number_of-bits_of b fits) in
    let p = parts_of 24 sum (length-added (bits_of b) r ∙ len) in
    let turned : fed r (bits_of b) ≡ added (fed (p.front ++ none 24) (none 8)) (p.back ++ none 8) = fed-before (bits_of b) r (omega arith) ∙ ap (λ q. fed q (none 8)) p.is ∙ fed-apart p.front p.back p.front_len p.back_len in
    let front_len : length (fed (p.front ++ none 24) (none 8)) ≡ 32 = length-fed 32 (p.front ++ none 24) (none 8) (omega (arith, length-append p.front (none 24), p.front_len)) in
    let bits : low 8 (number_of p.front) ≡ p.front = subst (λ (n : ℕ). low n (number_of p.front) ≡ p.front) p.front_len (low-number_of p.front) in
    let front : number_of (fed (p.front ++ none 24) (none 8)) ≡ word (bit_xor (number_of r) b % 256) =
    ap (λ q. number_of (fed (q ++ none 24) (none 8))) (sym bits) ∙ ap word (p.front_is ∙ ap (λ (n : ℕ). n % 256) (is_sum ∙ xor_comm b (number_of r))) in
    let high : b / 2 ^ 8 ≡ 0 = omega arith in
    let shifted : bit_xor b (number_of r) / 256 ≡ number_of r / 256 = xor_shr b (number_of r) 8 ∙ ap (λ (n : ℕ). bit_xor n (number_of r / 256)) high in
    let whole : number_of (p.back ++ none 8) ≡ number_of p.back = number_of-append p.back (none 8) ∙ (let e : number_of p.back + 2 ^ length p.back * 0 ≡ number_of p.back = omega arith in e) in
    let back : number_of (p.back ++ none 8) ≡ number_of r / 256 = whole ∙ p.back_is ∙ ap (λ (n : ℕ). n / 256) is_sum ∙ shifted in
    ap number_of turned ∙ number_of-added (fed (p.front ++ none 24) (none 8)) (p.back ++ none 8) (omega (arith, front_len, length-append p.back (none 8), p.back_len))
    ∙ ap (λ (n : ℕ). bit_xor n (number_of (p.back ++ none 8))) front ∙ ap (λ (n : ℕ). bit_xor (word (bit_xor (number_of r) b % 256)) n) back

-- ---- the tables

-- the register after one byte of zeros
abbrev next : ℕ → ℕ
next w = bit_xor (word (w % 256)) (w / 256)

next-is : (r : List Bool) → length r ≡ 32 → next (number_of r) ≡ number_of (fed r (none 8))
next-is r len = ap (λ (n : ℕ). bit_xor (word (n % 256)) (number_of r / 256)) (sym (xor_zero_r (number_of r))) ∙ sym (byte-fed r 0 len (omega arith))

abbrev pub after : ℕ → ℕ → ℕ
after zero w = w
after (suc k) w = after k (next w)

pub after-is : (k : ℕ) (r : List Bool) → length r ≡ 32 → after k (number_of r) ≡ number_of (past k r)
after-is zero r len = refl
after-is (suc k) r len = ap (after k) (next-is r len) ∙ after-is k (fed r (none 8)) (length-fed 32 r (none 8) len)

-- each table has the words of the one before it after one byte more
abbrev tables : ℕ → List ℕ → List (List ℕ)
tables zero t = []
tables (suc n) t = t ∷ tables n (map next t)

words : AFTER ≡ tables 16 (map word (range_with_len 0 256))
words = refl

in-tables : (n k i : ℕ) (t : List ℕ) (w : ℕ) → length t ≡ 256 → i < 256 → get_or t i 0 ≡ w → k < n → get_or (get_or (tables n t) k []) i 0 ≡ after k w
in-tables zero k i t w len lt is in_n = absurd (omega arith)
in-tables (suc n) zero i t w len lt is in_n = is
in-tables (suc n) (suc k) i t w len lt is in_n =
    in-tables n k i (map next t) (next w) (length-map t next ∙ len) lt (get_or-map next t i 0 0 (omega arith) ∙ ap next is) (omega arith)

-- a word is what eight bits leave behind after the bytes of zeros behind them
entry-is : (k i : ℕ) → i < 256 → entry k i ≡ number_of (past (suc k) (low 8 i ++ none 24))
unfolding entry
entry-is k i lt =
    let bits : List Bool = bits_of i in
    let zeros : List Bool = none (8 * k) in
    let left : List Bool = fed (none 32) (bits ++ zeros) in
    let left_len : length left ≡ 32 = length-fed 32 (none 32) (bits ++ zeros) refl in
    let count : 8 * k + 8 ≡ length (bits ++ zeros) = omega (arith, length-append bits zeros, length-replicate (8 * k) false) in
    let behind : bits ++ none (8 * k + 32) ≡ added (none 32) ((bits ++ zeros) ++ none 32) =
    ap (λ l. bits ++ l) (sym (replicate-append-replicate (8 * k) 32 false)) ∙ sym (append_assoc bits zeros (none 32)) ∙ sym (none_added 32 ((bits ++ zeros) ++ none 32)) in
    let whole : added left (none 32) ≡ left = ap (λ (n : ℕ). added left (none n)) (sym left_len) ∙ added_none left in
    let front : fed (none 32) bits ≡ fed (bits ++ none 24) (none 8) = fed-before bits (none 32) (omega arith) ∙ ap (λ q. fed q (none 8)) (added_front bits 24) in
    let low_is : low 8 i ≡ bits = ap (low 8) (sym (number_of-bits_of i lt)) ∙ low-number_of bits in
    ap (λ l. number_of (remainder (8 * k + 8) l)) behind
    ∙ ap number_of (remainder-added (8 * k + 8) (none 32) (bits ++ zeros) (none 32) refl count ∙ whole ∙ fed-append (none 32) bits zeros ∙ ap (λ q. fed q zeros) front ∙ fed-zeros k (fed (bits ++ none 24) (none 8)))
    ∙ ap (λ q. number_of (past (suc k) (q ++ none 24))) (sym low_is)

-- each table has these words
table-is : (k i : ℕ) → k < 16 → i < 256 → get_or (get_or AFTER k []) i 0 ≡ entry k i
table-is k i in_k in_i =
    ap (λ l. get_or (get_or l k []) i 0) words
    ∙ in-tables 16 k i (map word (range_with_len 0 256)) (word i) (length-map (range_with_len 0 256) word) in_i (get_or-map-range_with_len word 0 256 i i 0 in_i (omega arith)) in_k
    ∙ after-is k (fed (low 8 i ++ none 24) (none 8)) (length-fed 32 (low 8 i ++ none 24) (none 8) refl)
    ∙ sym (entry-is k i in_i)

-- ---- four bytes at once

bits_back : (front : List Bool) → length front ≡ 8 → low 8 (number_of front) ≡ front
bits_back front is_front = subst (λ (k : ℕ). low k (number_of front) ≡ front) is_front (low-number_of front)

byte_lt : (front : List Bool) → length front ≡ 8 → number_of front < 256
byte_lt front is_front = subst (λ (n : ℕ). number_of front < 2 ^ n) is_front (number_of-lt front)

entry-front : (k : ℕ) (front : List Bool) → length front ≡ 8 → number_of (past (suc k) (front ++ none 24)) ≡ entry k (number_of front)
entry-front k front is_front =
    ap (λ q. number_of (past (suc k) (q ++ none 24))) (sym (bits_back front is_front))
    ∙ sym (entry-is k (number_of front) (byte_lt front is_front))

past-front : (k : ℕ) (front back : List Bool) → length front ≡ 8 → length back ≡ 24 → number_of (past (suc k) (front ++ back)) ≡ bit_xor (entry k (number_of front)) (number_of (past k (back ++ none 8)))
past-front k front back is_front is_back =
    let left : List Bool = fed (front ++ none 24) (none 8) in
    let left_len : length left ≡ 32 = length-fed 32 (front ++ none 24) (none 8) (omega (arith, length-append front (none 24))) in
    let right_len : length (back ++ none 8) ≡ 32 = omega (arith, length-append back (none 8)) in
    ap (λ q. number_of (past k q)) (fed-apart front back is_front is_back)
    ∙ ap number_of (past-sum k left (back ++ none 8) left_len right_len)
    ∙ number_of-added (past k left) (past k (back ++ none 8)) (omega (arith, length-past k left left_len, length-past k (back ++ none 8) right_len))
    ∙ ap (λ (n : ℕ). bit_xor n (number_of (past k (back ++ none 8)))) (entry-front k front is_front)

-- a register that is all shifted out is the sum of four words
past-four : (k : ℕ) (p q s t : List Bool) → length p ≡ 8 → length q ≡ 8 → length s ≡ 8 → length t ≡ 8 → number_of (past (suc (suc (suc (suc k)))) (p ++ (q ++ (s ++ t)))) ≡ bit_xor (entry (suc (suc (suc k))) (number_of p)) (bit_xor (entry (suc (suc k)) (number_of q)) (bit_xor (entry (suc k) (number_of s)) (entry k (number_of t))))
past-four k p q s t is_p is_q is_s is_t =
    past-front (suc (suc (suc k))) p (q ++ (s ++ t)) is_p (omega (arith, length-append q (s ++ t), length-append s t))
    ∙ ap (bit_xor (entry (suc (suc (suc k))) (number_of p)))
    (ap (λ l. number_of (past (suc (suc (suc k))) l)) (append_assoc q (s ++ t) (none 8))
    ∙ past-front (suc (suc k)) q ((s ++ t) ++ none 8) is_q (omega (arith, length-append (s ++ t) (none 8), length-append s t))
    ∙ ap (bit_xor (entry (suc (suc k)) (number_of q)))
    (ap (λ l. number_of (past (suc (suc k)) l)) (ap (λ l. l ++ none 8) (append_assoc s t (none 8)) ∙ append_assoc s (t ++ none 8) (none 8))
    ∙ past-front (suc k) s ((t ++ none 8) ++ none 8) is_s (omega (arith, length-append (t ++ none 8) (none 8), length-append t (none 8)))
    ∙ ap (bit_xor (entry (suc k) (number_of s)))
    (ap (λ l. number_of (past (suc k) l)) (append_assoc (t ++ none 8) (none 8) (none 8) ∙ append_assoc t (none 8) (none 16))
    ∙ entry-front k t is_t)))

words_of-is : (k m : ℕ) (r : List Bool) → length r ≡ 32 → number_of r ≡ m → number_of (past (suc (suc (suc (suc k)))) r) ≡ words_of k m
unfolding words_of
words_of-is k m r len is_m =
    let x = parts_of 24 r len in
    let y = parts_of 16 x.back x.back_len in
    let z = parts_of 8 y.back y.back_len in
    let whole : r ≡ x.front ++ (y.front ++ (z.front ++ z.back)) = x.is ∙ ap (λ l. x.front ++ l) (y.is ∙ ap (λ l. y.front ++ l) z.is) in
    let first : number_of x.front ≡ m % 256 = x.front_is ∙ ap (λ (n : ℕ). n % 256) is_m in
    let after_first : number_of x.back ≡ m / 256 = x.back_is ∙ ap (λ (n : ℕ). n / 256) is_m in
    let second : number_of y.front ≡ m / 256 % 256 = y.front_is ∙ ap (λ (n : ℕ). n % 256) after_first in
    let after_second : number_of y.back ≡ m / 65536 = omega (arith, y.back_is, after_first) in
    let third : number_of z.front ≡ m / 65536 % 256 = z.front_is ∙ ap (λ (n : ℕ). n % 256) after_second in
    let small : number_of z.back < 256 = byte_lt z.back z.back_len in
    let fourth : number_of z.back ≡ m / 16777216 % 256 = omega (arith, z.back_is, after_second, small) in
    let e0 : ℕ = entry k (m / 16777216 % 256) in
    let e1 : ℕ = entry (suc k) (m / 65536 % 256) in
    let e2 : ℕ = entry (suc (suc k)) (m / 256 % 256) in
    let e3 : ℕ = entry (suc (suc (suc k))) (m % 256) in
    ap (λ q. number_of (past (suc (suc (suc (suc k)))) q)) whole
    ∙ past-four k x.front y.front z.front z.back x.front_len y.front_len z.front_len z.back_len
    ∙ ap (λ (n : ℕ). bit_xor (entry (suc (suc (suc k))) n) (bit_xor (entry (suc (suc k)) (number_of y.front)) (bit_xor (entry (suc k) (number_of z.front)) (entry k (number_of z.back))))) first
    ∙ ap (bit_xor e3)
    (ap (λ (n : ℕ). bit_xor (entry (suc (suc k)) n) (bit_xor (entry (suc k) (number_of z.front)) (entry k (number_of z.back)))) second
    ∙ ap (bit_xor e2)
    (ap (λ (n : ℕ). bit_xor (entry (suc k) n) (entry k (number_of z.back))) third ∙ ap (λ (n : ℕ). bit_xor e1 (entry k n)) fourth))
    ∙ sym (xor_assoc (bit_xor e3 e2) e1 e0 ∙ xor_assoc e3 e2 (bit_xor e1 e0))

-- the same by tables and indices that the code masks
pub words_of-masked : (k m : ℕ) → k ≤ 12 → bit_xor (bit_xor (bit_xor (get_or (get_or AFTER (k + 3) []) (bit_and m 255) 0) (get_or (get_or AFTER (k + 2) []) (bit_and (m / 256) 255) 0)) (get_or (get_or AFTER (k + 1) []) (bit_and (m / 65536) 255) 0)) (get_or (get_or AFTER k []) (bit_and (m / 16777216) 255) 0) ≡ words_of k m
unfolding words_of
words_of-masked k m few =
    let three : suc (suc (suc k)) ≡ k + 3 = omega arith in
    let two : suc (suc k) ≡ k + 2 = omega arith in
    let one : suc k ≡ k + 1 = omega arith in
    four_words
    (found (k + 3) m (omega (arith, few)) ∙ ap (λ (n : ℕ). entry n (m % 256)) (sym three))
    (found (k + 2) (m / 256) (omega (arith, few)) ∙ ap (λ (n : ℕ). entry n (m / 256 % 256)) (sym two))
    (found (k + 1) (m / 65536) (omega (arith, few)) ∙ ap (λ (n : ℕ). entry n (m / 65536 % 256)) (sym one))
    (found k (m / 16777216) (omega (arith, few)))
  where
    found : (j n : ℕ) → j < 16 → get_or (get_or AFTER j []) (bit_and n 255) 0 ≡ entry j (n % 256)
    found j n in_j = ap (λ (i : ℕ). get_or (get_or AFTER j []) i 0) (and_mask n 8) ∙ table-is j (n % 256) in_j (omega arith)

    four_words : {a b c d p q r s : ℕ} → a ≡ p → b ≡ q → c ≡ r → d ≡ s → bit_xor (bit_xor (bit_xor a b) c) d ≡ bit_xor (bit_xor (bit_xor p q) r) s
    four_words e f g h = cc

number_of-four : (a b c d : ℕ) → a < 256 → b < 256 → c < 256 → d < 256 → number_of (bits_of a ++ (bits_of b ++ (bits_of c ++ bits_of d))) ≡ four_of a b c d
number_of-four a b c d fa fb fc fd =
    omega (arith, number_of-append (bits_of a) (bits_of b ++ (bits_of c ++ bits_of d)), number_of-append (bits_of b) (bits_of c ++ bits_of d), number_of-append (bits_of c) (bits_of d), number_of-bits_of a fa, number_of-bits_of b fb, number_of-bits_of c fc, number_of-bits_of d fd)

-- four bytes of a list and those behind them
take_four : (k : ℕ) (l : List ℕ) (i : ℕ) → i + 4 ≤ length l → take (suc (suc (suc (suc k)))) (drop i l) ≡ get_or l i 0 ∷ get_or l (i + 1) 0 ∷ get_or l (i + 2) 0 ∷ get_or l (i + 3) 0 ∷ take k (drop (i + 4) l)
take_four k l i le =
    let two : suc i ≡ i + 1 = omega arith in
    let three : suc (i + 1) ≡ i + 2 = omega arith in
    let four : suc (i + 2) ≡ i + 3 = omega arith in
    let five : suc (i + 3) ≡ i + 4 = omega arith in
    ap (take (suc (suc (suc (suc k))))) (drop-cons l i 0 (omega arith))
    ∙ ap (λ (n : ℕ). get_or l i 0 ∷ take (suc (suc (suc k))) (drop n l)) two
    ∙ ap (λ q. get_or l i 0 ∷ take (suc (suc (suc k))) q) (drop-cons l (i + 1) 0 (omega arith))
    ∙ ap (λ (n : ℕ). get_or l i 0 ∷ get_or l (i + 1) 0 ∷ take (suc (suc k)) (drop n l)) three
    ∙ ap (λ q. get_or l i 0 ∷ get_or l (i + 1) 0 ∷ take (suc (suc k)) q) (drop-cons l (i + 2) 0 (omega arith))
    ∙ ap (λ (n : ℕ). get_or l i 0 ∷ get_or l (i + 1) 0 ∷ get_or l (i + 2) 0 ∷ take (suc k) (drop n l)) four
    ∙ ap (λ q. get_or l i 0 ∷ get_or l (i + 1) 0 ∷ get_or l (i + 2) 0 ∷ take (suc k) q) (drop-cons l (i + 3) 0 (omega arith))
    ∙ ap (λ (n : ℕ). get_or l i 0 ∷ get_or l (i + 1) 0 ∷ get_or l (i + 2) 0 ∷ get_or l (i + 3) 0 ∷ take k (drop n l)) five

-- four bytes turn the register by four words, and those behind them an empty one
four-fed : (r : List Bool) (a b c d m : ℕ) (rest : List ℕ) → length r ≡ 32 → a < 256 → b < 256 → c < 256 → d < 256 → m ≡ bit_xor (number_of r) (four_of a b c d) → number_of (fed r (flat_map bits_of (a ∷ b ∷ c ∷ d ∷ rest))) ≡ bit_xor (words_of (length rest) m) (number_of (fed (none 32) (flat_map bits_of rest)))
four-fed r a b c d m rest len fa fb fc fd is_m =
    let bits : List Bool = bits_of a ++ (bits_of b ++ (bits_of c ++ bits_of d)) in
    let behind : List Bool = flat_map bits_of rest in
    let sum : List Bool = added bits r in
    let sum_len : length sum ≡ 32 = length-added bits r ∙ len in
    let is_sum : number_of sum ≡ m = number_of-added bits r (omega arith) ∙ ap (λ (n : ℕ). bit_xor n (number_of r)) (number_of-four a b c d fa fb fc fd) ∙ xor_comm (four_of a b c d) (number_of r) ∙ sym is_m in
    let turned : List Bool = fed sum (none 32) in
    let turned_len : length turned ≡ 32 = length-fed 32 sum (none 32) sum_len in
    let whole : turned ≡ added turned (none 32) = sym (ap (λ (n : ℕ). added turned (none n)) (sym turned_len) ∙ added_none turned) in
    ap number_of (fed-append r bits behind)
    ∙ ap (λ q. number_of (fed q behind)) (fed-before bits r (omega arith) ∙ whole)
    ∙ ap number_of (fed-past turned (none 32) rest turned_len refl)
    ∙ number_of-added (past (length rest) turned) (fed (none 32) behind) (omega (arith, length-past (length rest) turned turned_len, length-fed 32 (none 32) behind refl))
    ∙ ap (λ (n : ℕ). bit_xor n (number_of (fed (none 32) behind))) (words_of-is (length rest) m sum sum_len is_sum)

-- ---- the register as a number

table-word : (i : ℕ) → i < 256 → get_or (get_or AFTER 0 []) i 0 ≡ word i
table-word i lt = ap (λ l. get_or (get_or l 0 []) i 0) words ∙ get_or-map-range_with_len word 0 256 i i 0 lt (omega arith)

-- the CRC of bytes is the complement of the register behind them
pub crc-fed : (l : List ℕ) → crc l ≡ 2 ^ 32 - 1 - number_of (fed ones (flat_map bits_of l))
crc-fed l =
    let before : List Bool = fed ones (flat_map bits_of l) in
    let len : length before ≡ 32 = length-fed 32 ones (flat_map bits_of l) refl in
    let sum : number_of (map not before) + number_of before + 1 ≡ 2 ^ 32 = number_of-not before ∙ ap (λ (n : ℕ). 2 ^ n) len in
    crc-is l ∙ omega arith

-- a CRC has 32 bits
pub crc-lt : (l : List ℕ) → crc l < 2 ^ 32
crc-lt l = omega (arith, crc-fed l)

-- ---- sixteen turns at once

block : (k : ℕ) (r : List Bool) (l : List ℕ) (i : ℕ) → length r ≡ 32 → ((j : ℕ) → get_or l j 0 < 256) → i + 4 + k ≤ length l → number_of (fed r (flat_map bits_of (take (suc (suc (suc (suc k)))) (drop i l)))) ≡ bit_xor (words_of k (bit_xor (number_of r) (four_at l i))) (number_of (fed (none 32) (flat_map bits_of (take k (drop (i + 4) l)))))
unfolding four_at
block k r l i len fits le =
    let rest : List ℕ = take k (drop (i + 4) l) in
    let rest_len : length rest ≡ k = length-take-le k (drop (i + 4) l) (omega (arith, length-drop (i + 4) l)) in
    ap (λ q. number_of (fed r (flat_map bits_of q))) (take_four k l i (omega arith))
    ∙ four-fed r (get_or l i 0) (get_or l (i + 1) 0) (get_or l (i + 2) 0) (get_or l (i + 3) 0) (bit_xor (number_of r) (four_at l i)) rest len (fits i) (fits (i + 1)) (fits (i + 2)) (fits (i + 3)) refl
    ∙ ap (λ (n : ℕ). bit_xor (words_of n (bit_xor (number_of r) (four_at l i))) (number_of (fed (none 32) (flat_map bits_of rest)))) rest_len

-- the last of them, behind which there is nothing
last_block : (l : List ℕ) (i : ℕ) → ((j : ℕ) → get_or l j 0 < 256) → i + 4 ≤ length l → number_of (fed (none 32) (flat_map bits_of (take 4 (drop i l)))) ≡ words_of 0 (four_at l i)
last_block l i fits le = block 0 (none 32) l i refl fits (omega arith) ∙ xor_zero_r (words_of 0 (four_at l i))

sixteen : (r : List Bool) (l : List ℕ) (i : ℕ) → length r ≡ 32 → ((j : ℕ) → get_or l j 0 < 256) → i + 16 ≤ length l → number_of (fed r (flat_map bits_of (take 16 (drop i l)))) ≡ bit_xor (words_of 12 (bit_xor (number_of r) (four_at l i))) (bit_xor (words_of 8 (four_at l (i + 4))) (bit_xor (words_of 4 (four_at l (i + 8))) (words_of 0 (four_at l (i + 12)))))
sixteen r l i len fits le =
    let eight : i + 4 + 4 ≡ i + 8 = omega arith in
    let twelve : i + 8 + 4 ≡ i + 12 = omega arith in
    block 12 r l i len fits (omega arith)
    ∙ ap (bit_xor (words_of 12 (bit_xor (number_of r) (four_at l i))))
    (block 8 (none 32) l (i + 4) refl fits (omega arith)
    ∙ ap (bit_xor (words_of 8 (four_at l (i + 4))))
    (ap (λ (n : ℕ). number_of (fed (none 32) (flat_map bits_of (take 8 (drop n l))))) eight
    ∙ block 4 (none 32) l (i + 8) refl fits (omega arith)
    ∙ ap (bit_xor (words_of 4 (four_at l (i + 8))))
    (ap (λ (n : ℕ). number_of (fed (none 32) (flat_map bits_of (take 4 (drop n l))))) twelve ∙ last_block l (i + 12) fits (omega arith))))

-- ---- what the loop keeps

-- a register as a number, that what is left of some bytes turns as all of them turn the first one
pub record Turns (start : List Bool) (all left : List ℕ) (n : ℕ) : Type 0 where
  pub register : List Bool
  pub len : length register ≡ 32
  pub is : number_of register ≡ n
  pub goes : fed register (flat_map bits_of left) ≡ fed start (flat_map bits_of all)

-- after the front ones
gone : {start : List Bool} {all left : List ℕ} {n : ℕ} → (t : Turns start all left n) → (front back : List ℕ) → left ≡ front ++ back → (m : ℕ) → number_of (fed t.register (flat_map bits_of front)) ≡ m → Turns start all back m
gone t front back split m is = record {
  register = fed t.register (flat_map bits_of front);
  len = length-fed 32 t.register (flat_map bits_of front) t.len;
  is = is;
  goes =
      sym (fed-append t.register (flat_map bits_of front) (flat_map bits_of back))
      ∙ ap (fed t.register) (sym (flat_map-append bits_of front back))
      ∙ ap (λ l. fed t.register (flat_map bits_of l)) (sym split) ∙ t.goes;
}

-- after one byte
pub one_gone : {start : List Bool} {all : List ℕ} {n : ℕ} → (l : List ℕ) (i b : ℕ) → Turns start all (drop i l) n → i < length l → b ≡ get_or l i 0 → get_or l i 0 < 256
    → Turns start all (drop (i + 1) l) (bit_xor (get_or (get_or AFTER 0 []) (bit_and (bit_xor n b) 255) 0) (n / 256))
one_gone {n = n} l i b t lt is_byte fits =
    let x : ℕ = get_or l i 0 in
    let next : suc i ≡ i + 1 = omega arith in
    let split : drop i l ≡ (x ∷ []) ++ drop (i + 1) l = drop-cons l i 0 lt ∙ ap (λ (k : ℕ). x ∷ drop k l) next in
    let turn : ℕ → ℕ → ℕ = λ (r : ℕ) (y : ℕ). bit_xor (get_or (get_or AFTER 0 []) (bit_and (bit_xor r y) 255) 0) (r / 256) in
    let index : bit_and (bit_xor n x) 255 ≡ bit_xor n x % 256 = and_mask (bit_xor n x) 8 in
    let word_is : get_or (get_or AFTER 0 []) (bit_and (bit_xor n x) 255) 0 ≡ word (bit_xor n x % 256) =
    ap (λ (j : ℕ). get_or (get_or AFTER 0 []) j 0) index ∙ table-word (bit_xor n x % 256) (omega arith) in
    gone t (x ∷ []) (drop (i + 1) l) split (turn n b)
    (ap (fed_number t.register) (append-nil (bits_of x))
    ∙ byte-fed t.register x t.len fits
    ∙ ap (λ (r : ℕ). bit_xor (word (bit_xor r x % 256)) (r / 256)) t.is
    ∙ ap (λ (w : ℕ). bit_xor w (n / 256)) (sym word_is)
    ∙ ap (turn n) (sym is_byte))
  where
    fed_number : List Bool → List Bool → ℕ
    fed_number r xs = number_of (fed r xs)

-- after sixteen
pub sixteen_gone : {start : List Bool} {all : List ℕ} {n : ℕ} → (l : List ℕ) (i : ℕ) → Turns start all (drop i l) n → i + 16 ≤ length l → ((j : ℕ) → get_or l j 0 < 256)
    → Turns start all (drop (i + 16) l) (bit_xor (bit_xor (bit_xor (words_of 8 (four_at l (i + 4))) (words_of 4 (four_at l (i + 8)))) (words_of 0 (four_at l (i + 12)))) (words_of 12 (bit_xor n (four_at l i))))
sixteen_gone {n = n} l i t le fits =
    let w0 : ℕ = words_of 0 (four_at l (i + 12)) in
    let w4 : ℕ = words_of 4 (four_at l (i + 8)) in
    let w8 : ℕ = words_of 8 (four_at l (i + 4)) in
    let split : drop i l ≡ take 16 (drop i l) ++ drop (i + 16) l = sym (take-append-drop 16 (drop i l)) ∙ ap (λ q. take 16 (drop i l) ++ q) (drop-drop 16 i l) in
    gone t (take 16 (drop i l)) (drop (i + 16) l) split (bit_xor (bit_xor (bit_xor w8 w4) w0) (words_of 12 (bit_xor n (four_at l i))))
    (sixteen t.register l i t.len fits le
    ∙ ap (λ (r : ℕ). bit_xor (words_of 12 (bit_xor r (four_at l i))) (bit_xor w8 (bit_xor w4 w0))) t.is
    ∙ ap (bit_xor (words_of 12 (bit_xor n (four_at l i)))) (sym (xor_assoc w8 w4 w0))
    ∙ xor_comm (words_of 12 (bit_xor n (four_at l i))) (bit_xor (bit_xor w8 w4) w0))

-- the register behind bytes
pub register_after-is : (start : List Bool) (l : List ℕ) → length start ≡ 32 → register_after start l ≡ number_of (fed start (flat_map bits_of l))
unfolding register_after
register_after-is start l is_start =
    let bits : List Bool = flat_map bits_of l in
    let left : List Bool = fed start bits in
    let whole : added left (none 32) ≡ left = ap (λ (n : ℕ). added left (none n)) (sym (length-fed 32 start bits is_start)) ∙ added_none left in
    ap number_of (remainder-added (8 * length l) start bits (none 32) is_start (sym (length-bits l)) ∙ whole)
