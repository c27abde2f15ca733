-- The room of a quotient, byte by byte.
use Rattle.std.proofs.Common.{◌≡◌, ℕ, zero, suc, ◌+◌, ◌<◌, ◌≤◌, ◌==◌, if◌then◌else◌, Bool, true, false, List, length, length-set, get_or, set, replicate, bit_xor, refl, sym, ap, ◌∙◌, arith}
use Rattle.std.proofs.lemmas.List.{get_or-set_same, get_or-set_other}
use Rattle.std.proofs.lemmas.Bool.Decides.{nat_tests}
use Rattle.std.specs.Prelude.{slice_index}
use Rattle.fc_check.specs.Division.{taken, begun}

split : (P : Type 0) → (i n : ℕ) → i ≤ n → (i < n → P) → (i ≡ n → P) → P
split P zero zero le a b = b refl
split P zero (suc n) le a b = a (omega arith)
split P (suc i) zero le a b = absurd (omega arith)
split P (suc i) (suc n) le a b = split P i n (omega arith) (λ lt. a (omega (arith, lt))) (λ e. b (ap (λ (m : ℕ). suc m) e))

-- zeros at each place, and behind the last
pub zeros-at : (n i : ℕ) → get_or (replicate {A = ℕ} n 0) i 0 ≡ (let z : ℕ = 0 in z)
zeros-at zero i = refl
zeros-at (suc n) zero = refl
zeros-at (suc n) (suc i) = zeros-at n i

-- one byte is put
put : (l : List ℕ) (k v i : ℕ) → k < length l → get_or (set l k v) i 0 ≡ (if i == k then v else get_or l i 0)
put l k v i lt = go (i == k) refl
  where
    go : (b : Bool) → (i == k) ≡ b → get_or (set l k v) i 0 ≡ (if b then v else get_or l i 0)
    go true e = let same : i ≡ k = grind (arith, nat_tests, e) in ap (λ (j : ℕ). get_or (set l k v) j 0) same ∙ get_or-set_same l k v 0 lt
    go false e = get_or-set_other l k i v 0 (λ same. grind (arith, nat_tests, e, same))

pub begun-at : (l : List ℕ) → length l ≡ 2048 → ((i : ℕ) → get_or l i 0 ≡ 0) → (i : ℕ) → get_or (set (set (set (set l 284 98) 285 245) 286 38) 287 146) i 0 ≡ begun i
unfolding begun
begun-at l len zeros i =
    let l1 = set l 284 98 in
    let l2 = set l1 285 245 in
    let l3 = set l2 286 38 in
    put l3 287 146 i (omega (arith, length-set l2 286 38, length-set l1 285 245, length-set l 284 98))
    ∙ ap (λ (n : ℕ). if i == 287 then 146 else n) (put l2 286 38 i (omega (arith, length-set l1 285 245, length-set l 284 98))
    ∙ ap (λ (n : ℕ). if i == 286 then 38 else n) (put l1 285 245 i (omega (arith, length-set l 284 98))
    ∙ ap (λ (n : ℕ). if i == 285 then 245 else n) (put l 284 98 i (omega arith) ∙ ap (λ (n : ℕ). if i == 284 then 98 else n) (zeros i))))

-- what is taken rests on five bytes
pub taken-same : (l m : List ℕ) (i b : ℕ) → ((k : ℕ) → k ≤ i + 107 → get_or l k 0 ≡ get_or m k 0) → taken l i b ≡ taken m i b
unfolding taken
taken-same l m i b same = five (same (i + 14) (omega arith)) (same (i + 25) (omega arith)) (same (i + 33) (omega arith)) (same (i + 89) (omega arith)) (same (i + 107) (omega arith))
  where
    five : {c d e f g p q r s t : ℕ} → c ≡ p → d ≡ q → e ≡ r → f ≡ s → g ≡ t → bit_xor (bit_xor (bit_xor (bit_xor (bit_xor b c) d) e) f) g ≡ bit_xor (bit_xor (bit_xor (bit_xor (bit_xor b p) q) r) s) t
    five u v w x y = cc

-- The quotient of so many bytes stands behind 288 bytes, and nothing else has changed.
pub record Divided (old room bytes : List ℕ) (count : ℕ) : Type 0 where
  pub others : (i : ℕ) → (288 ≤ i → i < 288 + count → ⊥) → slice_index room i ≡ slice_index old i
  pub size : length room ≡ length old
  pub quotient : (i : ℕ) → i < count → slice_index room (288 + i) ≡ taken room i (slice_index bytes i)

pub none_divided : (old bytes : List ℕ) → Divided old old bytes 0
none_divided old bytes = record { others = λ i out. refl; size = refl; quotient = λ i lt. absurd (omega (arith, lt)) }

pub one_divided : (old room bytes : List ℕ) (at v n : ℕ) → Divided old room bytes at → v ≡ taken room at (slice_index bytes at) → 288 + at < length room → n ≡ at + 1 → Divided old (set room (288 + at) v) bytes n
one_divided old room bytes at v n d is lt next = record {
  others = λ i out. get_or-set_other room (288 + at) i v 0 (λ same. out (omega (arith, same)) (omega (arith, same, next))) ∙ d.others i (λ ge below. out ge (omega (arith, below, next)));
  size = length-set room (288 + at) v ∙ d.size;
  quotient = λ i below. split (get_or new (288 + i) 0 ≡ taken new i (get_or bytes i 0)) i at (omega (arith, below, next)) (before i) (here i);
}
  where
    new : List ℕ
    new = set room (288 + at) v

    kept : (k : ℕ) → k < 288 + at → get_or new k 0 ≡ get_or room k 0
    kept k below = get_or-set_other room (288 + at) k v 0 (λ same. omega (arith, same, below))

    before : (i : ℕ) → i < at → get_or new (288 + i) 0 ≡ taken new i (get_or bytes i 0)
    before i below = kept (288 + i) (omega (arith, below)) ∙ d.quotient i below ∙ sym (taken-same new room i (get_or bytes i 0) (λ k le. kept k (omega (arith, le, below))))

    here : (i : ℕ) → i ≡ at → get_or new (288 + i) 0 ≡ taken new i (get_or bytes i 0)
    here i same =
        ap (λ (k : ℕ). get_or new (288 + k) 0) same ∙ get_or-set_same room (288 + at) v 0 lt ∙ is
        ∙ sym (taken-same new room at (get_or bytes at 0) (λ k le. kept k (omega (arith, le))))
        ∙ ap (λ (k : ℕ). taken new k (get_or bytes k 0)) (sym same)

-- so many bytes of the rest
pub record IsLeft (room bytes rest : List ℕ) (count n : ℕ) : Type 0 where
  pub size : length rest ≡ 288
  pub left : (i : ℕ) → i < n → slice_index rest i ≡ taken room (count + i) (slice_index bytes (count + i))

pub one_left : (room bytes rest : List ℕ) (count at v n : ℕ) → IsLeft room bytes rest count at → v ≡ taken room (count + at) (slice_index bytes (count + at)) → at < 288 → n ≡ at + 1 → IsLeft room bytes (set rest at v) count n
one_left room bytes rest count at v n so_far is lt next = record {
  size = length-set rest at v ∙ so_far.size;
  left = λ i below.
      split (get_or (set rest at v) i 0 ≡ taken room (count + i) (get_or bytes (count + i) 0)) i at (omega (arith, below, next))
      (λ before. get_or-set_other rest at i v 0 (λ same. omega (arith, same, before)) ∙ so_far.left i before)
      (λ same. ap (λ (k : ℕ). get_or (set rest at v) k 0) same ∙ get_or-set_same rest at v 0 (omega (arith, so_far.size)) ∙ is ∙ ap (λ (k : ℕ). taken room (count + k) (get_or bytes (count + k) 0)) (sym same));
}
