-- What is left of a division by the multiple leaves the register behind that all bytes do.
use Rattle.std.proofs.Common.{◌≡◌, ℕ, zero, suc, ◌+◌, ◌^◌, ◌<◌, ◌≤◌, Bool, List, [], ◌∷◌, ◌++◌, length, take, drop, drop-cons, get_or, bit_xor, flat_map, refl, sym, ap, subst, ◌∙◌, arith}
use Rattle.std.proofs.lemmas.Grind.{flat_map-append}
use Rattle.std.specs.Int.Bits.{xor_assoc, xor_zero_l, xor_zero_r, xor_self}
use Rattle.std.proofs.lemmas.Nat.{xor_comm}
use Rattle.std.proofs.lemmas.Bool.Decides.{nat_tests}
use Rattle.fc_check.specs.Crc.{bits_of, added, number_of}
use Rattle.fc_check.specs.Division.{begun}
use Rattle.fc_check.proofs.Register.{fed, past, none, ones, fed-append, length-fed, length-added, length-past, fed-before, fed-sum, fed-past, past-sum, added_none, added_left, added_assoc}
use Rattle.fc_check.proofs.Numbers.{low, low-number_of, number_of-lt, number_of-added, number_of-bits_of}
use Rattle.fc_check.proofs.Words.{after, after-is}
use Rattle.fc_check.proofs.Sparse.{after-five}

-- ---- bytes by their places

abbrev pub tab : (ℕ → ℕ) → ℕ → ℕ → List ℕ
tab f i zero = []
tab f i (suc n) = f i ∷ tab f (suc i) n

length-tab : (f : ℕ → ℕ) (i n : ℕ) → length (tab f i n) ≡ n
length-tab f i zero = refl
length-tab f i (suc n) = ap (λ (k : ℕ). suc k) (length-tab f (suc i) n)

pub tab-same : (f g : ℕ → ℕ) (i j n : ℕ) → ((k : ℕ) → k < n → f (i + k) ≡ g (j + k)) → tab f i n ≡ tab g j n
tab-same f g i j zero same = refl
tab-same f g i j (suc n) same =
    let further : (k : ℕ) → k < n → f (suc i + k) ≡ g (suc j + k) = λ k lt.
    ap f (let e : suc i + k ≡ i + suc k = omega arith in e) ∙ same (suc k) (omega (arith, lt)) ∙ ap g (let e : j + suc k ≡ suc j + k = omega arith in e) in
    let here : f i ≡ g j = ap f (let e : i ≡ i + 0 = omega arith in e) ∙ same 0 (omega arith) ∙ ap g (let e : j + 0 ≡ j = omega arith in e) in
    ap (λ (x : ℕ). x ∷ tab f (suc i) n) here ∙ ap (λ l. g j ∷ l) (tab-same f g (suc i) (suc j) n further)

pub tab-append : (f : ℕ → ℕ) (i m n k : ℕ) → k ≡ i + m → tab f i (m + n) ≡ tab f i m ++ tab f k n
tab-append f i zero n k is = ap (λ (j : ℕ). tab f i j) (let e : 0 + n ≡ n = omega arith in e) ∙ ap (λ (j : ℕ). tab f j n) (let e : i ≡ k = omega (arith, is) in e)
tab-append f i (suc m) n k is =
    ap (tab f i) (let e : suc m + n ≡ suc (m + n) = omega arith in e)
    ∙ ap (λ l. f i ∷ l) (tab-append f (suc i) m n k (omega (arith, is)))

pub take-tab : (l : List ℕ) (i n : ℕ) → i + n ≤ length l → take n (drop i l) ≡ tab (λ (k : ℕ). get_or l k 0) i n
take-tab l i zero le = refl
take-tab l i (suc n) le =
    ap (take (suc n)) (drop-cons l i 0 (omega arith)) ∙ ap (λ q. get_or l i 0 ∷ q) (take-tab l (suc i) n (omega arith))

-- ---- what they leave behind

-- the register that bytes leave behind an empty one
abbrev pub left : List ℕ → List Bool
left l = fed (none 32) (flat_map bits_of l)

abbrev pub left_by : List ℕ → ℕ
left_by l = number_of (left l)

pub length-left : (l : List ℕ) → length (left l) ≡ 32
length-left l = length-fed 32 (none 32) (flat_map bits_of l) refl

-- behind a register too
fed-left : (r : List Bool) (l : List ℕ) → length r ≡ 32 → fed r (flat_map bits_of l) ≡ added (past (length l) r) (left l)
fed-left r l is_r =
    ap (λ q. fed q (flat_map bits_of l)) (sym (ap (λ (n : ℕ). added r (none n)) (sym is_r) ∙ added_none r))
    ∙ fed-past r (none 32) l is_r refl

pub fed-left_by : (r : List Bool) (l : List ℕ) → length r ≡ 32 → number_of (fed r (flat_map bits_of l)) ≡ bit_xor (after (length l) (number_of r)) (left_by l)
fed-left_by r l is_r =
    ap number_of (fed-left r l is_r)
    ∙ number_of-added (past (length l) r) (left l) (omega (arith, length-past (length l) r is_r, length-left l))
    ∙ ap (λ (n : ℕ). bit_xor n (left_by l)) (sym (after-is (length l) r is_r))

pub left_by-append : (a b : List ℕ) → left_by (a ++ b) ≡ bit_xor (after (length b) (left_by a)) (left_by b)
left_by-append a b =
    ap (λ xs. number_of (fed (none 32) xs)) (flat_map-append bits_of a b)
    ∙ ap number_of (fed-append (none 32) (flat_map bits_of a) (flat_map bits_of b))
    ∙ fed-left_by (left a) b (length-left a)

-- zeros leave nothing behind
pub left-zeros : (f : ℕ → ℕ) (i n : ℕ) → ((k : ℕ) → k < n → f (i + k) ≡ 0) → left (tab f i n) ≡ none 32
left-zeros f i zero zeros = refl
left-zeros f i (suc n) zeros =
    let here : f i ≡ 0 = ap f (let e : i ≡ i + 0 = omega arith in e) ∙ zeros 0 (omega arith) in
    ap (λ (x : ℕ). left (x ∷ tab f (suc i) n)) here
    ∙ left-zeros f (suc i) n (λ k lt. ap f (let e : suc i + k ≡ i + suc k = omega arith in e) ∙ zeros (suc k) (omega (arith, lt)))

after-zero : (k : ℕ) → after k 0 ≡ 0
after-zero zero = refl
after-zero (suc k) = after-zero k

after-after : (j k n m : ℕ) → m ≡ k + j → after j (after k n) ≡ after m n
after-after j zero n m is = ap (λ (i : ℕ). after i n) (let e : j ≡ m = omega (arith, is) in e)
after-after j (suc k) n zero is = absurd (omega (arith, is))
after-after j (suc k) n (suc m) is = after-after j k (after 1 n) m (omega (arith, is))

-- of a sum of registers
pub after-xor : (k : ℕ) (r s : List Bool) → length r ≡ 32 → length s ≡ 32 → after k (bit_xor (number_of r) (number_of s)) ≡ bit_xor (after k (number_of r)) (after k (number_of s))
after-xor k r s is_r is_s =
    ap (after k) (sym (number_of-added r s (omega arith)))
    ∙ after-is k (added r s) (length-added r s ∙ is_s)
    ∙ ap number_of (past-sum k r s is_r is_s)
    ∙ number_of-added (past k r) (past k s) (omega (arith, length-past k r is_r, length-past k s is_s))
    ∙ ap (λ (n : ℕ). bit_xor n (number_of (past k s))) (sym (after-is k r is_r)) ∙ ap (bit_xor (after k (number_of r))) (sym (after-is k s is_s))

-- ---- sums of bytes

low-bits : (b : ℕ) → b < 256 → low 8 b ≡ bits_of b
low-bits b lt = ap (low 8) (sym (number_of-bits_of b lt)) ∙ low-number_of (bits_of b)

bits-xor : (x y : ℕ) → x < 256 → y < 256 → bits_of (bit_xor x y) ≡ added (bits_of x) (bits_of y)
bits-xor x y lx ly =
    let sum : List Bool = added (bits_of x) (bits_of y) in
    let len : length sum ≡ 8 = length-added (bits_of x) (bits_of y) in
    let is : number_of sum ≡ bit_xor x y = number_of-added (bits_of x) (bits_of y) (omega arith) ∙ ap (λ (n : ℕ). bit_xor n (number_of (bits_of y))) (number_of-bits_of x lx) ∙ ap (bit_xor x) (number_of-bits_of y ly) in
    let small : number_of sum < 2 ^ 8 = subst (λ (n : ℕ). number_of sum < 2 ^ n) len (number_of-lt sum) in
    sym (low-bits (bit_xor x y) (omega (arith, small, is))) ∙ ap (low 8) (sym is) ∙ subst (λ (n : ℕ). low n (number_of sum) ≡ sum) len (low-number_of sum)

fed-two : (r s : List Bool) (x y : ℕ) → length r ≡ 32 → length s ≡ 32 → x < 256 → y < 256 → fed (added r s) (bits_of (bit_xor x y)) ≡ added (fed r (bits_of x)) (fed s (bits_of y))
fed-two r s x y is_r is_s lx ly =
    let bx : List Bool = bits_of x in
    let by : List Bool = bits_of y in
    ap (fed (added r s)) (bits-xor x y lx ly)
    ∙ fed-before (added bx by) (added r s) (omega (arith, length-added bx by, length-added r s))
    ∙ ap (λ (n : ℕ). fed (added (added bx by) (added r s)) (none n)) (length-added bx by)
    ∙ ap (λ q. fed q (none 8)) (added_assoc bx by (added r s) (omega arith) ∙ ap (added bx) (added_left by r s) ∙ sym (added_assoc bx r (added by s) (omega arith)))
    ∙ fed-sum 8 (added bx r) (added by s) (length-added bx r ∙ is_r) (length-added by s ∙ is_s)
    ∙ ap (λ q. added q (fed (added by s) (none 8))) (sym (fed-before bx r (omega arith)))
    ∙ ap (added (fed r bx)) (sym (fed-before by s (omega arith)))

abbrev pub Bytes : (ℕ → ℕ) → Type 0
Bytes f = (i : ℕ) → f i < 256

fed-tabs : (f g : ℕ → ℕ) → Bytes f → Bytes g → (i n : ℕ) (r s : List Bool) → length r ≡ 32 → length s ≡ 32
    → fed (added r s) (flat_map bits_of (tab (λ (k : ℕ). bit_xor (f k) (g k)) i n)) ≡ added (fed r (flat_map bits_of (tab f i n))) (fed s (flat_map bits_of (tab g i n)))
fed-tabs f g bf bg i zero r s is_r is_s = refl
fed-tabs f g bf bg i (suc n) r s is_r is_s =
    fed-append (added r s) (bits_of (bit_xor (f i) (g i))) (flat_map bits_of (tab (λ (k : ℕ). bit_xor (f k) (g k)) (suc i) n))
    ∙ ap (λ q. fed q (flat_map bits_of (tab (λ (k : ℕ). bit_xor (f k) (g k)) (suc i) n))) (fed-two r s (f i) (g i) is_r is_s (bf i) (bg i))
    ∙ fed-tabs f g bf bg (suc i) n (fed r (bits_of (f i))) (fed s (bits_of (g i))) (length-fed 32 r (bits_of (f i)) is_r) (length-fed 32 s (bits_of (g i)) is_s)
    ∙ ap (λ q. added q (fed (fed s (bits_of (g i))) (flat_map bits_of (tab g (suc i) n)))) (sym (fed-append r (bits_of (f i)) (flat_map bits_of (tab f (suc i) n))))
    ∙ ap (added (fed r (flat_map bits_of (tab f i (suc n))))) (sym (fed-append s (bits_of (g i)) (flat_map bits_of (tab g (suc i) n))))

left_by-xor : (f g : ℕ → ℕ) → Bytes f → Bytes g → (i n : ℕ) → left_by (tab (λ (k : ℕ). bit_xor (f k) (g k)) i n) ≡ bit_xor (left_by (tab f i n)) (left_by (tab g i n))
left_by-xor f g bf bg i n =
    ap number_of (fed-tabs f g bf bg i n (none 32) (none 32) refl refl)
    ∙ number_of-added (left (tab f i n)) (left (tab g i n)) (omega (arith, length-left (tab f i n), length-left (tab g i n)))

bytes-xor : (f g : ℕ → ℕ) → Bytes f → Bytes g → Bytes (λ (k : ℕ). bit_xor (f k) (g k))
bytes-xor f g bf bg i =
    let sum : List Bool = added (bits_of (f i)) (bits_of (g i)) in
    let is : number_of sum ≡ bit_xor (f i) (g i) = number_of-added (bits_of (f i)) (bits_of (g i)) (omega arith) ∙ ap (λ (n : ℕ). bit_xor n (number_of (bits_of (g i)))) (number_of-bits_of (f i) (bf i)) ∙ ap (bit_xor (f i)) (number_of-bits_of (g i) (bg i)) in
    let small : number_of sum < 2 ^ 8 = subst (λ (n : ℕ). number_of sum < 2 ^ n) (length-added (bits_of (f i)) (bits_of (g i))) (number_of-lt sum) in
    omega (arith, small, is)

-- ---- what stands in front of the quotient

begun-zero : (i : ℕ) → i < 284 → begun i ≡ 0
unfolding begun
begun-zero i lt = grind (arith, nat_tests)

pub begun-behind : (i : ℕ) → 288 ≤ i → begun i ≡ 0
unfolding begun
begun-behind i le = grind (arith, nat_tests)

last_four : left_by (tab begun 284 4) ≡ 4294967295
unfolding begun
last_four = refl

filled : left_by (tab begun 0 288) ≡ 4294967295
filled =
    ap left_by (tab-append begun 0 284 4 284 (omega arith)) ∙ left_by-append (tab begun 0 284) (tab begun 284 4)
    ∙ ap (λ (n : ℕ). bit_xor (after 4 n) (left_by (tab begun 284 4))) (ap number_of (left-zeros begun 0 284 (λ k lt. begun-zero (0 + k) (omega arith))))
    ∙ last_four

-- ---- the division

abbrev pub without : (ℕ → ℕ) → ℕ → ℕ → ℕ
without w i b = bit_xor (bit_xor (bit_xor (bit_xor (bit_xor b (w (i + 14))) (w (i + 25))) (w (i + 33))) (w (i + 89))) (w (i + 107))

-- an equation for the rest
solved : (x r m y a b c d e : ℕ) → bit_xor x r ≡ bit_xor (bit_xor (bit_xor (bit_xor (bit_xor m a) b) c) d) e → bit_xor y x ≡ bit_xor a (bit_xor b (bit_xor c (bit_xor d e))) → r ≡ bit_xor y m
solved x r m y a b c d e parts whole =
    let grouped : bit_xor (bit_xor (bit_xor (bit_xor (bit_xor m a) b) c) d) e ≡ bit_xor m (bit_xor a (bit_xor b (bit_xor c (bit_xor d e)))) =
    xor_assoc (bit_xor (bit_xor (bit_xor m a) b) c) d e ∙ xor_assoc (bit_xor (bit_xor m a) b) c (bit_xor d e) ∙ xor_assoc (bit_xor m a) b (bit_xor c (bit_xor d e)) ∙ xor_assoc m a (bit_xor b (bit_xor c (bit_xor d e))) in
    let sum : bit_xor x r ≡ bit_xor m (bit_xor y x) = parts ∙ grouped ∙ ap (bit_xor m) (sym whole) in
    sym (xor_zero_l r) ∙ ap (λ (n : ℕ). bit_xor n r) (sym (xor_self x)) ∙ xor_assoc x x r ∙ ap (bit_xor x) (sum ∙ sym (xor_assoc m y x))
    ∙ xor_comm x (bit_xor (bit_xor m y) x) ∙ xor_assoc (bit_xor m y) x x ∙ ap (bit_xor (bit_xor m y)) (xor_self x) ∙ xor_zero_r (bit_xor m y) ∙ xor_comm m y

module _ (w m t : ℕ → ℕ) (s : ℕ) (bw : Bytes w) (bm : Bytes m) (start : (i : ℕ) → i < 288 → w i ≡ begun i)
    (quotient : (i : ℕ) → i < s → w (288 + i) ≡ without w i (m i)) (behind : (i : ℕ) → 288 + s ≤ i → w i ≡ 0)
    (rest : (i : ℕ) → i < 288 → t i ≡ without w (s + i) (m (s + i))) where
  abbrev made : List Bool
  made = left (tab w 288 s)

  abbrev room : List Bool
  room = left (tab w 0 (288 + s))

  begins : left_by (tab w 0 288) ≡ 4294967295
  begins = ap left_by (tab-same w begun 0 0 288 (λ k lt. start (0 + k) (omega arith))) ∙ filled

  room_is : number_of room ≡ bit_xor (after s 4294967295) (number_of made)
  room_is =
      ap left_by (tab-append w 0 288 s 288 (omega arith)) ∙ left_by-append (tab w 0 288) (tab w 288 s)
      ∙ ap (λ (n : ℕ). bit_xor (after n (left_by (tab w 0 288))) (number_of made)) (length-tab w 288 s)
      ∙ ap (λ (n : ℕ). bit_xor (after s n) (number_of made)) begins

  -- a run of the room leaves behind what all of it does after some bytes of zeros
  run : (p : ℕ) → p ≤ 107 → left_by (tab (λ (i : ℕ). w (i + p)) 0 (s + 288)) ≡ after p (number_of room)
  run p le =
      let n : ℕ = s + 288 in
      let shifted : tab (λ (i : ℕ). w (i + p)) 0 n ≡ tab w p n = tab-same (λ (i : ℕ). w (i + p)) w 0 p n (λ k lt. ap w (let e : 0 + k + p ≡ p + k = omega arith in e)) in
      let front : left_by (tab w 0 p) ≡ 0 = ap number_of (left-zeros w 0 p (λ k lt. start (0 + k) (omega (arith, lt, le)) ∙ begun-zero (0 + k) (omega (arith, lt, le)))) in
      let ahead : left_by (tab w 0 (p + n)) ≡ left_by (tab w p n) =
      ap left_by (tab-append w 0 p n p (omega arith)) ∙ left_by-append (tab w 0 p) (tab w p n)
      ∙ ap (λ (k : ℕ). bit_xor (after (length (tab w p n)) k) (left_by (tab w p n))) front
      ∙ ap (λ (k : ℕ). bit_xor k (left_by (tab w p n))) (after-zero (length (tab w p n))) ∙ xor_zero_l (left_by (tab w p n)) in
      let back : left_by (tab w (288 + s) p) ≡ 0 = ap number_of (left-zeros w (288 + s) p (λ k lt. behind (288 + s + k) (omega arith))) in
      let behind_it : left_by (tab w 0 (288 + s + p)) ≡ after p (number_of room) =
      ap left_by (tab-append w 0 (288 + s) p (288 + s) (omega arith)) ∙ left_by-append (tab w 0 (288 + s)) (tab w (288 + s) p)
      ∙ ap (bit_xor (after (length (tab w (288 + s) p)) (number_of room))) back ∙ xor_zero_r (after (length (tab w (288 + s) p)) (number_of room))
      ∙ ap (λ (k : ℕ). after k (number_of room)) (length-tab w (288 + s) p) in
      ap left_by shifted ∙ sym ahead ∙ ap (λ (k : ℕ). left_by (tab w 0 k)) (let e : p + n ≡ 288 + s + p = omega arith in e) ∙ behind_it

  moved : (p : ℕ) → Bytes (λ (i : ℕ). w (i + p))
  moved p = λ i. bw (i + p)

  parts : left_by (tab (λ (i : ℕ). without w i (m i)) 0 (s + 288)) ≡ bit_xor (bit_xor (bit_xor (bit_xor (bit_xor (left_by (tab m 0 (s + 288))) (after 14 (number_of room))) (after 25 (number_of room))) (after 33 (number_of room))) (after 89 (number_of room))) (after 107 (number_of room))
  parts =
      let n : ℕ = s + 288 in
      let g1 : ℕ → ℕ = λ (i : ℕ). bit_xor (m i) (w (i + 14)) in
      let g2 : ℕ → ℕ = λ (i : ℕ). bit_xor (g1 i) (w (i + 25)) in
      let g3 : ℕ → ℕ = λ (i : ℕ). bit_xor (g2 i) (w (i + 33)) in
      let g4 : ℕ → ℕ = λ (i : ℕ). bit_xor (g3 i) (w (i + 89)) in
      let b1 : Bytes g1 = bytes-xor m (λ (i : ℕ). w (i + 14)) bm (moved 14) in
      let b2 : Bytes g2 = bytes-xor g1 (λ (i : ℕ). w (i + 25)) b1 (moved 25) in
      let b3 : Bytes g3 = bytes-xor g2 (λ (i : ℕ). w (i + 33)) b2 (moved 33) in
      let b4 : Bytes g4 = bytes-xor g3 (λ (i : ℕ). w (i + 89)) b3 (moved 89) in
      let e1 : left_by (tab g1 0 n) ≡ bit_xor (left_by (tab m 0 n)) (after 14 (number_of room)) = left_by-xor m (λ (i : ℕ). w (i + 14)) bm (moved 14) 0 n ∙ ap (bit_xor (left_by (tab m 0 n))) (run 14 (omega arith)) in
      let e2 : left_by (tab g2 0 n) ≡ bit_xor (left_by (tab g1 0 n)) (after 25 (number_of room)) = left_by-xor g1 (λ (i : ℕ). w (i + 25)) b1 (moved 25) 0 n ∙ ap (bit_xor (left_by (tab g1 0 n))) (run 25 (omega arith)) in
      let e3 : left_by (tab g3 0 n) ≡ bit_xor (left_by (tab g2 0 n)) (after 33 (number_of room)) = left_by-xor g2 (λ (i : ℕ). w (i + 33)) b2 (moved 33) 0 n ∙ ap (bit_xor (left_by (tab g2 0 n))) (run 33 (omega arith)) in
      let e4 : left_by (tab g4 0 n) ≡ bit_xor (left_by (tab g3 0 n)) (after 89 (number_of room)) = left_by-xor g3 (λ (i : ℕ). w (i + 89)) b3 (moved 89) 0 n ∙ ap (bit_xor (left_by (tab g3 0 n))) (run 89 (omega arith)) in
      left_by-xor g4 (λ (i : ℕ). w (i + 107)) b4 (moved 107) 0 n ∙ ap (bit_xor (left_by (tab g4 0 n))) (run 107 (omega arith))
      ∙ ap (λ (k : ℕ). bit_xor k (after 107 (number_of room)))
      (e4 ∙ ap (λ (k : ℕ). bit_xor k (after 89 (number_of room))) (e3 ∙ ap (λ (k : ℕ). bit_xor k (after 33 (number_of room))) (e2 ∙ ap (λ (k : ℕ). bit_xor k (after 25 (number_of room))) e1)))

  kept : left_by (tab (λ (i : ℕ). without w i (m i)) 0 (s + 288)) ≡ bit_xor (after 288 (number_of made)) (left_by (tab t 0 288))
  kept =
      let g : ℕ → ℕ = λ (i : ℕ). without w i (m i) in
      let first : tab g 0 s ≡ tab w 288 s = tab-same g w 0 288 s (λ k lt. ap g (let e : 0 + k ≡ k = omega arith in e) ∙ sym (quotient k lt)) in
      let second : tab g s 288 ≡ tab t 0 288 = tab-same g t s 0 288 (λ k lt. sym (rest k lt) ∙ ap t (let e : k ≡ 0 + k = omega arith in e)) in
      ap left_by (tab-append g 0 s 288 s (omega arith) ∙ ap (λ l. l ++ tab g s 288) first ∙ ap (λ l. tab w 288 s ++ l) second)
      ∙ left_by-append (tab w 288 s) (tab t 0 288)

  room_after : after 288 (number_of room) ≡ bit_xor (after (s + 288) 4294967295) (after 288 (number_of made))
  room_after =
      ap (after 288) (room_is ∙ ap (λ (n : ℕ). bit_xor n (number_of made)) (after-is s ones refl))
      ∙ after-xor 288 (past s ones) made (length-past s ones refl) (length-left (tab w 288 s))
      ∙ ap (λ (n : ℕ). bit_xor n (after 288 (number_of made))) (ap (after 288) (sym (after-is s ones refl)) ∙ after-after 288 s 4294967295 (s + 288) refl)

  -- the rest leaves behind what all bytes do
  pub rest-leaves : left_by (tab t 0 288) ≡ number_of (fed ones (flat_map bits_of (tab m 0 (s + 288))))
  rest-leaves =
      solved (after 288 (number_of made)) (left_by (tab t 0 288)) (left_by (tab m 0 (s + 288))) (after (s + 288) 4294967295) _ _ _ _ _ (sym kept ∙ parts) (sym room_after ∙ after-five room (length-left (tab w 0 (288 + s))))
      ∙ ap (λ (n : ℕ). bit_xor (after n 4294967295) (left_by (tab m 0 (s + 288)))) (sym (length-tab m 0 (s + 288)))
      ∙ sym (fed-left_by ones (tab m 0 (s + 288)) refl)
