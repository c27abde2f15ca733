-- A multiple of the polynomial with six powers: 288 bytes of zeros turn a register as the sum of five shorter runs does.
use Rattle.std.proofs.Common.{◌≡◌, ℕ, zero, suc, ◌+◌, ◌*◌, Bool, true, false, List, [], ◌∷◌, ◌++◌, length, length-append, append_assoc, bit_xor, refl, sym, ap, subst, ◌∙◌, arith}
use Rattle.std.proofs.lemmas.List.{length-replicate, replicate-append-replicate}
use Rattle.fc_check.specs.Crc.{added, number_of}
use Rattle.fc_check.proofs.Register.{fed, past, none, fed-append, fed-zeros, fed-sum, length-added, length-past, past-sum, added_left, added_assoc, none_added}
use Rattle.fc_check.proofs.Numbers.{low, low-number_of, number_of-added}
use Rattle.fc_check.proofs.Words.{after, after-is}

-- the sum of the five runs
abbrev pub five : List Bool → List Bool
five r = added (past 14 r) (added (past 25 r) (added (past 33 r) (added (past 89 r) (past 107 r))))

-- one bit of zeros more comes before or behind

abbrev Steps : (List Bool → List Bool) → Type 0
Steps f = (r : List Bool) → f (fed r (none 1)) ≡ fed (f r) (none 1)

past_steps : (k : ℕ) → Steps (past k)
past_steps k r =
    sym (fed-zeros k (fed r (none 1)))
    ∙ sym (fed-append r (none 1) (none (8 * k)))
    ∙ ap (fed r) (replicate-append-replicate 1 (8 * k) false ∙ ap none (let e : 1 + 8 * k ≡ 8 * k + 1 = omega arith in e) ∙ sym (replicate-append-replicate (8 * k) 1 false))
    ∙ fed-append r (none (8 * k)) (none 1)
    ∙ ap (λ q. fed q (none 1)) (fed-zeros k r)

sum_length : (a b : List Bool) → length b ≡ 32 → length (added a b) ≡ 32
sum_length a b len = length-added a b ∙ len

-- a sum of sums, in another order
crossed : (a b c d : List Bool) → length a ≡ 32 → length b ≡ 32 → length c ≡ 32 → added (added a b) (added c d) ≡ added (added a c) (added b d)
crossed a b c d la lb lc =
    added_assoc a b (added c d) (omega arith)
    ∙ ap (added a) (added_left b c d)
    ∙ sym (added_assoc a c (added b d) (omega arith))

module _ (r s : List Bool) (is_r : length r ≡ 32) (is_s : length s ≡ 32) where
  lr : (k : ℕ) → length (past k r) ≡ 32
  lr k = length-past k r is_r

  ls : (k : ℕ) → length (past k s) ≡ 32
  ls k = length-past k s is_s

  five_sum : five (added r s) ≡ added (five r) (five s)
  five_sum =
      let p : (k : ℕ) → past k (added r s) ≡ added (past k r) (past k s) = λ k. past-sum k r s is_r is_s in
      let r4 : List Bool = added (past 89 r) (past 107 r) in
      let s4 : List Bool = added (past 89 s) (past 107 s) in
      let r3 : List Bool = added (past 33 r) r4 in
      let s3 : List Bool = added (past 33 s) s4 in
      let r2 : List Bool = added (past 25 r) r3 in
      let s2 : List Bool = added (past 25 s) s3 in
      let l4 : length r4 ≡ 32 = sum_length (past 89 r) (past 107 r) (lr 107) in
      let l3 : length r3 ≡ 32 = sum_length (past 33 r) r4 l4 in
      let l2 : length r2 ≡ 32 = sum_length (past 25 r) r3 l3 in
      let four : added (past 89 (added r s)) (past 107 (added r s)) ≡ added r4 s4 =
      ap (λ q. added q (past 107 (added r s))) (p 89) ∙ ap (added (added (past 89 r) (past 89 s))) (p 107) ∙ crossed (past 89 r) (past 89 s) (past 107 r) (past 107 s) (lr 89) (ls 89) (lr 107) in
      let three : added (past 33 (added r s)) (added (past 89 (added r s)) (past 107 (added r s))) ≡ added r3 s3 =
      ap (λ q. added q (added (past 89 (added r s)) (past 107 (added r s)))) (p 33) ∙ ap (added (added (past 33 r) (past 33 s))) four ∙ crossed (past 33 r) (past 33 s) r4 s4 (lr 33) (ls 33) l4 in
      let two : added (past 25 (added r s)) (added (past 33 (added r s)) (added (past 89 (added r s)) (past 107 (added r s)))) ≡ added r2 s2 =
      ap (λ q. added q (added (past 33 (added r s)) (added (past 89 (added r s)) (past 107 (added r s))))) (p 25) ∙ ap (added (added (past 25 r) (past 25 s))) three ∙ crossed (past 25 r) (past 25 s) r3 s3 (lr 25) (ls 25) l3 in
      ap (λ q. added q (added (past 25 (added r s)) (added (past 33 (added r s)) (added (past 89 (added r s)) (past 107 (added r s)))))) (p 14) ∙ ap (added (added (past 14 r) (past 14 s))) two ∙ crossed (past 14 r) (past 14 s) r2 s2 (lr 14) (ls 14) l2

five_steps : (r : List Bool) → length r ≡ 32 → five (fed r (none 1)) ≡ fed (five r) (none 1)
five_steps r is_r =
    let l : (k : ℕ) → length (past k r) ≡ 32 = λ k. length-past k r is_r in
    let z : List Bool → List Bool = λ q. fed q (none 1) in
    let p : (k : ℕ) → past k (z r) ≡ z (past k r) = λ k. past_steps k r in
    let r4 : List Bool = added (past 89 r) (past 107 r) in
    let r3 : List Bool = added (past 33 r) r4 in
    let r2 : List Bool = added (past 25 r) r3 in
    let l4 : length r4 ≡ 32 = sum_length (past 89 r) (past 107 r) (l 107) in
    let l3 : length r3 ≡ 32 = sum_length (past 33 r) r4 l4 in
    let l2 : length r2 ≡ 32 = sum_length (past 25 r) r3 l3 in
    let four : added (past 89 (z r)) (past 107 (z r)) ≡ z r4 =
    ap (λ q. added q (past 107 (z r))) (p 89) ∙ ap (added (z (past 89 r))) (p 107) ∙ sym (fed-sum 1 (past 89 r) (past 107 r) (l 89) (l 107)) in
    let three : added (past 33 (z r)) (added (past 89 (z r)) (past 107 (z r))) ≡ z r3 =
    ap (λ q. added q (added (past 89 (z r)) (past 107 (z r)))) (p 33) ∙ ap (added (z (past 33 r))) four ∙ sym (fed-sum 1 (past 33 r) r4 (l 33) l4) in
    let two : added (past 25 (z r)) (added (past 33 (z r)) (added (past 89 (z r)) (past 107 (z r)))) ≡ z r2 =
    ap (λ q. added q (added (past 33 (z r)) (added (past 89 (z r)) (past 107 (z r))))) (p 25) ∙ ap (added (z (past 25 r))) three ∙ sym (fed-sum 1 (past 25 r) r3 (l 25) l3) in
    ap (λ q. added q (added (past 25 (z r)) (added (past 33 (z r)) (added (past 89 (z r)) (past 107 (z r)))))) (p 14) ∙ ap (added (z (past 14 r))) two ∙ sym (fed-sum 1 (past 14 r) r2 (l 14) l2)

-- one bit, with so many behind it

length_unit : (m n : ℕ) → length (none m ++ true ∷ none n) ≡ m + 1 + n
length_unit m n = omega (arith, length-append (none m) (true ∷ none n), length-replicate m false, length-replicate n false)

-- the last bit alone
abbrev last : List Bool
last = none 31 ++ true ∷ []

-- it holds of that one, as is computed
computed : after 288 2147483648 ≡ bit_xor (after 14 2147483648) (bit_xor (after 25 2147483648) (bit_xor (after 33 2147483648) (bit_xor (after 89 2147483648) (after 107 2147483648))))
computed = refl

back : (r : List Bool) → length r ≡ 32 → low 32 (number_of r) ≡ r
back r len = subst (λ (n : ℕ). low n (number_of r) ≡ r) len (low-number_of r)

number_of-five : (r : List Bool) → length r ≡ 32 → number_of (five r) ≡ bit_xor (after 14 (number_of r)) (bit_xor (after 25 (number_of r)) (bit_xor (after 33 (number_of r)) (bit_xor (after 89 (number_of r)) (after 107 (number_of r)))))
number_of-five r is_r =
    let l : (k : ℕ) → length (past k r) ≡ 32 = λ k. length-past k r is_r in
    let r4 : List Bool = added (past 89 r) (past 107 r) in
    let r3 : List Bool = added (past 33 r) r4 in
    let r2 : List Bool = added (past 25 r) r3 in
    let l4 : length r4 ≡ 32 = sum_length (past 89 r) (past 107 r) (l 107) in
    let l3 : length r3 ≡ 32 = sum_length (past 33 r) r4 l4 in
    let l2 : length r2 ≡ 32 = sum_length (past 25 r) r3 l3 in
    let n : (k : ℕ) → number_of (past k r) ≡ after k (number_of r) = λ k. sym (after-is k r is_r) in
    number_of-added (past 14 r) r2 (omega (arith, l 14, l2))
    ∙ both (n 14) (number_of-added (past 25 r) r3 (omega (arith, l 25, l3))
    ∙ both (n 25) (number_of-added (past 33 r) r4 (omega (arith, l 33, l4))
    ∙ both (n 33) (number_of-added (past 89 r) (past 107 r) (omega (arith, l 89, l 107)) ∙ both (n 89) (n 107))))
  where
    both : {a b c d : ℕ} → a ≡ c → b ≡ d → bit_xor a b ≡ bit_xor c d
    both e f = cc

length_five : (r : List Bool) → length r ≡ 32 → length (five r) ≡ 32
length_five r is_r =
    let r4 : List Bool = added (past 89 r) (past 107 r) in
    let r3 : List Bool = added (past 33 r) r4 in
    let r2 : List Bool = added (past 25 r) r3 in
    sum_length (past 14 r) r2 (sum_length (past 25 r) r3 (sum_length (past 33 r) r4 (sum_length (past 89 r) (past 107 r) (length-past 107 r is_r))))

of_last : past 288 last ≡ five last
of_last =
    let len : length last ≡ 32 = refl in
    let is : number_of last ≡ 2147483648 = refl in
    let all : ℕ → ℕ = λ (n : ℕ). bit_xor (after 14 n) (bit_xor (after 25 n) (bit_xor (after 33 n) (bit_xor (after 89 n) (after 107 n)))) in
    let same : number_of (past 288 last) ≡ number_of (five last) =
    sym (after-is 288 last len) ∙ ap (after 288) is ∙ computed ∙ ap all (sym is) ∙ sym (number_of-five last len) in
    let five_len : length (five last) ≡ 32 = length_five last len in
    sym (back (past 288 last) (length-past 288 last len)) ∙ ap (low 32) same ∙ back (five last) five_len

-- so it holds of each bit before it
of_unit : (n m : ℕ) → m + 1 + n ≡ 32 → past 288 (none m ++ true ∷ none n) ≡ five (none m ++ true ∷ none n)
of_unit zero m is = ap (λ (k : ℕ). past 288 (none k ++ true ∷ [])) (let e : m ≡ 31 = omega arith in e) ∙ of_last ∙ ap (λ (k : ℕ). five (none k ++ true ∷ [])) (let e : 31 ≡ m = omega arith in e)
of_unit (suc n) m is =
    let before : List Bool = none (suc m) ++ true ∷ none n in
    let len : length before ≡ 32 = omega (arith, length_unit (suc m) n) in
    let shifted : fed before (none 1) ≡ none m ++ true ∷ none (suc n) =
    append_assoc (none m) (true ∷ none n) (false ∷ []) ∙ ap (λ l. none m ++ true ∷ l) (replicate-append-replicate n 1 false ∙ ap none (let e : n + 1 ≡ suc n = omega arith in e)) in
    ap (past 288) (sym shifted) ∙ past_steps 288 before ∙ ap (λ q. fed q (none 1)) (of_unit n (suc m) (omega arith)) ∙ sym (five_steps before len) ∙ ap five shifted

-- nothing but zeros
past_none : (k : ℕ) → past k (none 32) ≡ none 32
past_none zero = refl
past_none (suc k) = past_none k

sum_none : (a b : List Bool) → a ≡ none 32 → b ≡ none 32 → added a b ≡ none 32
sum_none a b e f = ap (λ q. added q b) e ∙ none_added 32 b ∙ f

of_none : past 288 (none 32) ≡ five (none 32)
of_none = past_none 288 ∙ sym (sum_none (past 14 (none 32)) (added (past 25 (none 32)) (added (past 33 (none 32)) (added (past 89 (none 32)) (past 107 (none 32))))) (past_none 14) (sum_none (past 25 (none 32)) (added (past 33 (none 32)) (added (past 89 (none 32)) (past 107 (none 32)))) (past_none 25) (sum_none (past 33 (none 32)) (added (past 89 (none 32)) (past 107 (none 32))) (past_none 33) (sum_none (past 89 (none 32)) (past 107 (none 32)) (past_none 89) (past_none 107)))))

-- bits behind zeros
of_back : (m : ℕ) (s : List Bool) → m + length s ≡ 32 → past 288 (none m ++ s) ≡ five (none m ++ s)
of_back m [] is = ap (λ (k : ℕ). past 288 (none k ++ [])) (let e : m ≡ 32 = omega arith in e) ∙ of_none ∙ ap (λ (k : ℕ). five (none k ++ [])) (let e : 32 ≡ m = omega arith in e)
of_back m (false ∷ s) is =
    let more : none m ++ false ∷ s ≡ none (suc m) ++ s = sym (append_assoc (none m) (false ∷ []) s) ∙ ap (λ l. l ++ s) (replicate-append-replicate m 1 false ∙ ap none (let e : m + 1 ≡ suc m = omega arith in e)) in
    ap (past 288) more ∙ of_back (suc m) s (omega arith) ∙ ap five (sym more)
of_back m (true ∷ s) is =
    let one : List Bool = none m ++ true ∷ none (length s) in
    let others : List Bool = none (suc m) ++ s in
    let one_len : length one ≡ 32 = omega (arith, length_unit m (length s)) in
    let others_len : length others ≡ 32 = omega (arith, length-append (none (suc m)) s, length-replicate (suc m) false) in
    let sum : added one others ≡ none m ++ true ∷ s = apart m s in
    ap (past 288) (sym sum) ∙ past-sum 288 one others one_len others_len
    ∙ ap (λ q. added q (past 288 others)) (of_unit (length s) m (omega arith)) ∙ ap (added (five one)) (of_back (suc m) s (omega arith))
    ∙ sym (five_sum one others one_len others_len) ∙ ap five sum
  where
    apart : (m : ℕ) (s : List Bool) → added (none m ++ true ∷ none (length s)) (none (suc m) ++ s) ≡ none m ++ true ∷ s
    apart zero s = ap (λ l. true ∷ l) (none_added (length s) s)
    apart (suc m) s = ap (λ l. false ∷ l) (apart m s)

-- 288 bytes of zeros are the five runs
pub past-five : (r : List Bool) → length r ≡ 32 → past 288 r ≡ five r
past-five r len = of_back 0 r (omega (arith, len))

-- the same of their numbers
pub after-five : (r : List Bool) → length r ≡ 32 → after 288 (number_of r) ≡ bit_xor (after 14 (number_of r)) (bit_xor (after 25 (number_of r)) (bit_xor (after 33 (number_of r)) (bit_xor (after 89 (number_of r)) (after 107 (number_of r)))))
after-five r len = after-is 288 r len ∙ ap number_of (past-five r len) ∙ number_of-five r len
