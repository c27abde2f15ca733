-- The division as a register of 32 bits that is fed bit by bit.
use Rattle.std.proofs.Common.{◌≡◌, ℕ, zero, suc, ◌+◌, ◌*◌, ◌≤◌, Bool, true, false, not, cond, List, [], ◌∷◌, ◌++◌, length, length-append, append_assoc, map, flat_map, replicate, refl, sym, ap, ◌∙◌, arith}
use Rattle.std.proofs.lemmas.List.{append-nil, replicate-append-replicate}
use Rattle.fc_check.specs.Crc.{bits_of, plus, added, POLYNOMIAL, remainder, number_of, crc}

-- the register after one more bit
abbrev pub turned : List Bool → Bool → List Bool
turned [] x = []
turned (r ∷ rs) x = cond (plus r x) (added POLYNOMIAL (rs ++ false ∷ [])) (rs ++ false ∷ [])

-- the register after these bits
abbrev pub fed : List Bool → List Bool → List Bool
fed register [] = register
fed register (x ∷ xs) = fed (turned register x) xs

abbrev pub none : ℕ → List Bool
none count = replicate count false

-- ---- sums of bits

plus_comm : (a b : Bool) → plus a b ≡ plus b a
plus_comm false false = refl
plus_comm false true = refl
plus_comm true false = refl
plus_comm true true = refl

plus_assoc : (a b c : Bool) → plus (plus a b) c ≡ plus a (plus b c)
plus_assoc false b c = refl
plus_assoc true false c = refl
plus_assoc true true false = refl
plus_assoc true true true = refl

plus_left : (a b c : Bool) → plus a (plus b c) ≡ plus b (plus a c)
plus_left a b c = sym (plus_assoc a b c) ∙ ap (λ d. plus d c) (plus_comm a b) ∙ plus_assoc b a c

plus_twice : (a b : Bool) → plus a (plus a b) ≡ b
plus_twice false b = refl
plus_twice true false = refl
plus_twice true true = refl

plus_none : (a : Bool) → plus a false ≡ a
plus_none false = refl
plus_none true = refl

pub length-added : (a b : List Bool) → length (added a b) ≡ length b
length-added [] b = refl
length-added (p ∷ a) [] = refl
length-added (p ∷ a) (b ∷ bs) = let h = length-added a bs in omega arith

pub added_assoc : (a b c : List Bool) → length a ≤ length b → added (added a b) c ≡ added a (added b c)
added_assoc [] b c le = refl
added_assoc (p ∷ a) [] c le = absurd (omega arith)
added_assoc (p ∷ a) (q ∷ b) [] le = refl
added_assoc (p ∷ a) (q ∷ b) (r ∷ c) le = ap (λ x. x ∷ added (added a b) c) (plus_assoc p q r) ∙ ap (λ l. plus p (plus q r) ∷ l) (added_assoc a b c (omega arith))

pub added_left : (a b c : List Bool) → added a (added b c) ≡ added b (added a c)
added_left [] b c = refl
added_left (p ∷ a) [] c = refl
added_left (p ∷ a) (q ∷ b) [] = refl
added_left (p ∷ a) (q ∷ b) (r ∷ c) = ap (λ x. x ∷ added a (added b c)) (plus_left p q r) ∙ ap (λ l. plus q (plus p r) ∷ l) (added_left a b c)

added_twice : (a b : List Bool) → added a (added a b) ≡ b
added_twice [] b = refl
added_twice (p ∷ a) [] = refl
added_twice (p ∷ a) (b ∷ bs) = ap (λ x. x ∷ added a (added a bs)) (plus_twice p b) ∙ ap (λ l. b ∷ l) (added_twice a bs)

-- a last bit of 0 adds nothing
added_zero_behind : (a b : List Bool) → added (a ++ false ∷ []) b ≡ added a b
added_zero_behind [] [] = refl
added_zero_behind [] (b ∷ bs) = refl
added_zero_behind (p ∷ a) [] = refl
added_zero_behind (p ∷ a) (b ∷ bs) = ap (λ l. plus p b ∷ l) (added_zero_behind a bs)

-- a sum with a last bit behind it
added_behind : (a b : List Bool) → length a ≤ length b → added a b ++ false ∷ [] ≡ added a (b ++ false ∷ [])
added_behind [] b le = refl
added_behind (p ∷ a) [] le = absurd (omega arith)
added_behind (p ∷ a) (b ∷ bs) le = ap (λ l. plus p b ∷ l) (added_behind a bs (omega arith))

pub added_none : (a : List Bool) → added a (none (length a)) ≡ a
added_none [] = refl
added_none (p ∷ a) = ap (λ x. x ∷ added a (none (length a))) (plus_none p) ∙ ap (λ l. p ∷ l) (added_none a)

-- bits that are added to none are the front of it
pub added_front : (a : List Bool) (n : ℕ) → added a (none (length a + n)) ≡ a ++ none n
added_front [] n = ap none (let e : 0 + n ≡ n = omega arith in e)
added_front (p ∷ a) n =
    ap (λ (k : ℕ). added (p ∷ a) (none k)) (let e : suc (length a) + n ≡ suc (length a + n) = omega arith in e)
    ∙ ap (λ x. x ∷ added a (none (length a + n))) (plus_none p)
    ∙ ap (λ l. p ∷ l) (added_front a n)

-- ---- the register

pub length-turned : (n : ℕ) (r : List Bool) (x : Bool) → length r ≡ n → length (turned r x) ≡ n
length-turned n [] x is = is
length-turned n (r ∷ rs) x is =
    elim (plus r x) as (λ b. length (cond b (added POLYNOMIAL (rs ++ false ∷ [])) (rs ++ false ∷ [])) ≡ n) [
      | true ↦ omega (arith, length-added POLYNOMIAL (rs ++ false ∷ []), length-append rs (false ∷ []))
      | false ↦ omega (arith, length-append rs (false ∷ []))
    ]

pub length-fed : (n : ℕ) (r xs : List Bool) → length r ≡ n → length (fed r xs) ≡ n
length-fed n r [] is = is
length-fed n r (x ∷ xs) is = length-fed n (turned r x) xs (length-turned n r x is)

-- one step of the division turns the register that was added to the front
turned_is : (r : Bool) (rs : List Bool) (x : Bool) (s : List Bool) → length (r ∷ rs) ≡ 32 → cond (plus r x) (added POLYNOMIAL (added rs s)) (added rs s) ≡ added (turned (r ∷ rs) x) s
turned_is r rs x s is =
    elim (plus r x) as (λ b. cond b (added POLYNOMIAL (added rs s)) (added rs s) ≡ added (cond b (added POLYNOMIAL (rs ++ false ∷ [])) (rs ++ false ∷ [])) s) [
      | true ↦ ap (added POLYNOMIAL) (sym (added_zero_behind rs s)) ∙ sym (added_assoc POLYNOMIAL (rs ++ false ∷ []) s (omega (arith, length-append rs (false ∷ []))))
      | false ↦ sym (added_zero_behind rs s)
    ]

pub remainder-added : (count : ℕ) (r xs s : List Bool) → length r ≡ 32 → count ≡ length xs → remainder count (added r (xs ++ s)) ≡ added (fed r xs) s
unfolding remainder
remainder-added zero r [] s is many = refl
remainder-added zero r (x ∷ xs) s is many = absurd (omega arith)
remainder-added (suc count) r [] s is many = absurd (omega arith)
remainder-added (suc count) [] (x ∷ xs) s is many = absurd (omega arith)
remainder-added (suc count) (r ∷ rs) (x ∷ xs) s is many =
    ap (remainder count) (turned_is r rs x (xs ++ s) is)
    ∙ remainder-added count (turned (r ∷ rs) x) xs s (length-turned 32 (r ∷ rs) x is) (omega arith)

pub fed-append : (r xs ys : List Bool) → fed r (xs ++ ys) ≡ fed (fed r xs) ys
fed-append r [] ys = refl
fed-append r (x ∷ xs) ys = fed-append (turned r x) xs ys

pub length-bits : (l : List ℕ) → length (flat_map bits_of l) ≡ 8 * length l
length-bits [] = refl
length-bits (b ∷ l) = let h = length-bits l in omega (arith, length-append (bits_of b) (flat_map bits_of l))

abbrev pub ones : List Bool
ones = replicate 32 true

-- the CRC of bytes is the complement of the register that was fed their bits
pub crc-is : (l : List ℕ) → crc l ≡ number_of (map not (fed ones (flat_map bits_of l)))
unfolding crc
crc-is l =
    let divided : remainder (8 * length l) (added ones (flat_map bits_of l ++ none 32)) ≡ added (fed ones (flat_map bits_of l)) (none 32) =
    remainder-added (8 * length l) ones (flat_map bits_of l) (none 32) refl (sym (length-bits l)) in
    let whole : added (fed ones (flat_map bits_of l)) (none 32) ≡ fed ones (flat_map bits_of l) =
    ap (λ (n : ℕ). added (fed ones (flat_map bits_of l)) (none n)) (sym (length-fed 32 ones (flat_map bits_of l) refl)) ∙ added_none (fed ones (flat_map bits_of l)) in
    ap (λ bits. number_of (map not bits)) (divided ∙ whole)

-- ---- a byte at once

-- bits may be added to the register before it turns
turned_before : (x : Bool) (xs : List Bool) (r : Bool) (rs : List Bool) → length xs ≤ length rs → added xs (turned (r ∷ rs) x) ≡ turned (plus x r ∷ added xs rs) false
turned_before x xs r rs le =
    let same : plus (plus x r) false ≡ plus r x = plus_none (plus x r) ∙ plus_comm x r in
    (elim (plus r x) as (λ b. added xs (cond b (added POLYNOMIAL (rs ++ false ∷ [])) (rs ++ false ∷ [])) ≡ cond b (added POLYNOMIAL (added xs rs ++ false ∷ [])) (added xs rs ++ false ∷ [])) [
      | true ↦ added_left xs POLYNOMIAL (rs ++ false ∷ []) ∙ ap (added POLYNOMIAL) (sym (added_behind xs rs le))
      | false ↦ sym (added_behind xs rs le)
    ])
    ∙ ap (λ b. cond b (added POLYNOMIAL (added xs rs ++ false ∷ [])) (added xs rs ++ false ∷ [])) (sym same)

pub fed-before : (xs r : List Bool) → length xs ≤ length r → fed r xs ≡ fed (added xs r) (none (length xs))
fed-before [] r le = refl
fed-before (x ∷ xs) [] le = absurd (omega arith)
fed-before (x ∷ xs) (r ∷ rs) le =
    fed-before xs (turned (r ∷ rs) x) (omega (arith, length-turned (length (r ∷ rs)) (r ∷ rs) x refl))
    ∙ ap (λ q. fed q (none (length xs))) (turned_before x xs r rs (omega arith))

-- a sum of registers turns as its parts do
turned_sum : (a b : Bool) (rs ss : List Bool) → length rs ≡ 31 → length ss ≡ 31 → turned (plus a b ∷ added rs ss) false ≡ added (turned (a ∷ rs) false) (turned (b ∷ ss) false)
turned_sum a b rs ss is_r is_s = by_cases a b
  where
    behind : added rs ss ++ false ∷ [] ≡ added (rs ++ false ∷ []) (ss ++ false ∷ [])
    behind = added_behind rs ss (omega arith) ∙ sym (added_zero_behind rs (ss ++ false ∷ []))

    by_cases : (a b : Bool) → turned (plus a b ∷ added rs ss) false ≡ added (turned (a ∷ rs) false) (turned (b ∷ ss) false)
    by_cases false false = behind
    by_cases true false = ap (added POLYNOMIAL) behind ∙ sym (added_assoc POLYNOMIAL (rs ++ false ∷ []) (ss ++ false ∷ []) (omega (arith, length-append rs (false ∷ []))))
    by_cases false true = ap (added POLYNOMIAL) behind ∙ added_left POLYNOMIAL (rs ++ false ∷ []) (ss ++ false ∷ [])
    by_cases true true =
        behind ∙ sym (added_twice POLYNOMIAL (added (rs ++ false ∷ []) (ss ++ false ∷ [])))
        ∙ ap (added POLYNOMIAL) (added_left POLYNOMIAL (rs ++ false ∷ []) (ss ++ false ∷ []))
        ∙ sym (added_assoc POLYNOMIAL (rs ++ false ∷ []) (added POLYNOMIAL (ss ++ false ∷ [])) (omega (arith, length-append rs (false ∷ []))))

pub fed-sum : (count : ℕ) (r s : List Bool) → length r ≡ 32 → length s ≡ 32 → fed (added r s) (none count) ≡ added (fed r (none count)) (fed s (none count))
fed-sum zero r s is_r is_s = refl
fed-sum (suc count) [] s is_r is_s = absurd (omega arith)
fed-sum (suc count) (a ∷ rs) [] is_r is_s = absurd (omega arith)
fed-sum (suc count) (a ∷ rs) (b ∷ ss) is_r is_s =
    ap (λ q. fed q (none count)) (turned_sum a b rs ss (omega arith) (omega arith))
    ∙ fed-sum count (turned (a ∷ rs) false) (turned (b ∷ ss) false) (length-turned 32 (a ∷ rs) false is_r) (length-turned 32 (b ∷ ss) false is_s)

-- an empty front is shifted out
fed-shift : (count : ℕ) (r : List Bool) → fed (none count ++ r) (none count) ≡ r ++ none count
fed-shift zero r = sym (append-nil r)
fed-shift (suc count) r =
    ap (λ q. fed q (none count)) (append_assoc (none count) r (false ∷ []))
    ∙ fed-shift count (r ++ false ∷ []) ∙ append_assoc r (false ∷ []) (none count)

pub none_added : (count : ℕ) (r : List Bool) → added (none count) r ≡ r
none_added zero r = refl
none_added (suc count) [] = refl
none_added (suc count) (b ∷ r) = ap (λ l. b ∷ l) (none_added count r)

-- a front and a back are the sum of both, each with zeros in the place of the other
added_apart : (n : ℕ) (xs ys : List Bool) → added (xs ++ none n) (none (length xs) ++ ys) ≡ xs ++ ys
added_apart n [] ys = none_added n ys
added_apart n (x ∷ xs) ys = ap (λ y. y ∷ added (xs ++ none n) (none (length xs) ++ ys)) (plus_none x) ∙ ap (λ l. x ∷ l) (added_apart n xs ys)

-- eight steps of a register: what its front leaves behind and its back
pub fed-apart : (front back : List Bool) → length front ≡ 8 → length back ≡ 24 → fed (front ++ back) (none 8) ≡ added (fed (front ++ none 24) (none 8)) (back ++ none 8)
fed-apart front back is_front is_back =
    let apart : added (front ++ none 24) (none 8 ++ back) ≡ front ++ back = ap (λ (n : ℕ). added (front ++ none 24) (none n ++ back)) (sym is_front) ∙ added_apart 24 front back in
    ap (λ q. fed q (none 8)) (sym apart)
    ∙ fed-sum 8 (front ++ none 24) (none 8 ++ back) (omega (arith, length-append front (none 24))) (omega (arith, length-append (none 8) back))
    ∙ ap (added (fed (front ++ none 24) (none 8))) (fed-shift 8 back)

-- ---- bytes of zeros

-- the register after so many bytes of zeros
abbrev pub past : ℕ → List Bool → List Bool
past zero r = r
past (suc k) r = past k (fed r (none 8))

-- it is that of as many bits
pub fed-zeros : (k : ℕ) (r : List Bool) → fed r (none (8 * k)) ≡ past k r
fed-zeros zero r = refl
fed-zeros (suc k) r =
    ap (λ (n : ℕ). fed r (none n)) (let e : 8 * suc k ≡ 8 + 8 * k = omega arith in e)
    ∙ ap (fed r) (sym (replicate-append-replicate 8 (8 * k) false))
    ∙ fed-append r (none 8) (none (8 * k))
    ∙ fed-zeros k (fed r (none 8))

pub length-past : (k : ℕ) (r : List Bool) → length r ≡ 32 → length (past k r) ≡ 32
length-past zero r is = is
length-past (suc k) r is = length-past k (fed r (none 8)) (length-fed 32 r (none 8) is)

pub past-sum : (k : ℕ) (r s : List Bool) → length r ≡ 32 → length s ≡ 32 → past k (added r s) ≡ added (past k r) (past k s)
past-sum zero r s is_r is_s = refl
past-sum (suc k) r s is_r is_s =
    ap (past k) (fed-sum 8 r s is_r is_s)
    ∙ past-sum k (fed r (none 8)) (fed s (none 8)) (length-fed 32 r (none 8) is_r) (length-fed 32 s (none 8) is_s)

fed-byte : (r s : List Bool) (b : ℕ) → length r ≡ 32 → length s ≡ 32 → fed (added r s) (bits_of b) ≡ added (fed r (none 8)) (fed s (bits_of b))
fed-byte r s b is_r is_s =
    fed-before (bits_of b) (added r s) (omega (arith, length-added r s))
    ∙ ap (λ q. fed q (none 8)) (added_left (bits_of b) r s)
    ∙ fed-sum 8 r (added (bits_of b) s) is_r (length-added (bits_of b) s ∙ is_s)
    ∙ ap (added (fed r (none 8))) (sym (fed-before (bits_of b) s (omega arith)))

-- of a sum of registers one may be fed the bytes, and the other as many of zeros
pub fed-past : (r s : List Bool) (l : List ℕ) → length r ≡ 32 → length s ≡ 32 → fed (added r s) (flat_map bits_of l) ≡ added (past (length l) r) (fed s (flat_map bits_of l))
fed-past r s [] is_r is_s = refl
fed-past r s (b ∷ l) is_r is_s =
    fed-append (added r s) (bits_of b) (flat_map bits_of l)
    ∙ ap (λ q. fed q (flat_map bits_of l)) (fed-byte r s b is_r is_s)
    ∙ fed-past (fed r (none 8)) (fed s (bits_of b)) l (length-fed 32 r (none 8) is_r) (length-fed 32 s (bits_of b) is_s)
    ∙ ap (added (past (length l) (fed r (none 8)))) (sym (fed-append s (bits_of b) (flat_map bits_of l)))
