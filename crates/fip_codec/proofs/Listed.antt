-- A list of descriptors, from its front: the first one, and the list behind it.
use Rattle.std.proofs.Common.{◌≡◌, ℕ, zero, suc, ◌+◌, ◌-◌, ◌*◌, ◌<◌, ◌≤◌, Bool, true, false, cond, nat_lt, nat_le, ◌&&◌, List, [], ◌∷◌, length, get_or, slice_index, take, drop, refl, sym, ap, ◌∙◌, arith, length-drop, take_all}
use Rattle.std.proofs.lemmas.Bool.Decides.{nat_tests}
use Rattle.std.proofs.lemmas.List.{length-take-le, drop_all}
use Rattle.fip_codec.specs.Fip.{Descriptor, descriptors_from}
use Rattle.fip_codec.specs.Walk.{listed, broken}

-- whether the front of a list is whole, behind its type
abbrev pub fits : List ℕ → Bool
fits l = nat_lt 0 (slice_index l 0) && nat_le (4 * slice_index l 0) (length l + 1)

abbrev pub first : ℕ → ℕ → List ℕ → Descriptor
first at kind l = record { at = at; kind = kind; words = slice_index l 0; content = take (4 * slice_index l 0 - 2) (drop 1 l); whole = true }

abbrev pub cut_short : ℕ → ℕ → List ℕ → Descriptor
cut_short at kind l = record { at = at; kind = kind; words = slice_index l 0; content = []; whole = false }

turn : (n at kind : ℕ) (l : List ℕ) → descriptors_from (suc n) at (kind ∷ l)
    ≡ cond (fits l) (first at kind l ∷ descriptors_from n (at + 4 * slice_index l 0) (drop (4 * slice_index l 0 - 1) l)) (cut_short at kind l ∷ [])
turn n at kind l =
    let X = first at kind l ∷ descriptors_from n (at + 4 * slice_index l 0) (drop (4 * slice_index l 0 - 1) l) in
    let Y = cut_short at kind l ∷ [] in
    elim (fits l) as (λ b. (elim b as (λ _. List Descriptor) [ true ↦ X | false ↦ Y ]) ≡ cond b X Y) [ true ↦ refl | false ↦ refl ]

-- enough turns are as many as one likes
fuel : (n m at : ℕ) (l : List ℕ) → length l ≤ n → length l ≤ m → descriptors_from n at l ≡ descriptors_from m at l
fuel zero zero at l p q = refl
fuel zero (suc m) at [] p q = refl
fuel zero (suc m) at (kind ∷ l) p q = absurd (omega arith)
fuel (suc n) zero at [] p q = refl
fuel (suc n) zero at (kind ∷ l) p q = absurd (omega arith)
fuel (suc n) (suc m) at [] p q = refl
fuel (suc n) (suc m) at (kind ∷ l) p q =
    let k = 4 * slice_index l 0 - 1 in
    let rest = fuel n m (at + 4 * slice_index l 0) (drop k l) (omega (arith, length-drop k l)) (omega (arith, length-drop k l)) in
    turn n at kind l ∙ ap (λ ds. cond (fits l) (first at kind l ∷ ds) (cut_short at kind l ∷ [])) rest ∙ sym (turn m at kind l)

pub listed-cons : (at kind : ℕ) (l : List ℕ) → listed at (kind ∷ l)
    ≡ cond (fits l) (first at kind l ∷ listed (at + 4 * slice_index l 0) (drop (4 * slice_index l 0 - 1) l)) (cut_short at kind l ∷ [])
unfolding listed
listed-cons at kind l =
    let k = 4 * slice_index l 0 - 1 in
    turn (length l) at kind l ∙ ap (λ ds. cond (fits l) (first at kind l ∷ ds) (cut_short at kind l ∷ [])) (fuel (length l) (length (drop k l)) (at + 4 * slice_index l 0) (drop k l) (omega (arith, length-drop k l)) (omega arith))

pub listed-nil : (at : ℕ) → listed at [] ≡ []
unfolding listed
listed-nil at = refl

pub listed-none : (l : List ℕ) → length l ≡ 0 → (at : ℕ) → listed at l ≡ []
listed-none [] e at = listed-nil at
listed-none (kind ∷ l) e at = absurd (omega arith)

fits-true : (l : List ℕ) → 0 < slice_index l 0 → 4 * slice_index l 0 ≤ length l + 1 → fits l ≡ true
fits-true l p q = grind (arith, nat_tests)

fits-false : (l : List ℕ) → length l + 1 < 4 * slice_index l 0 → fits l ≡ false
fits-false l q = grind (arith, nat_tests)

fits-zero : (l : List ℕ) → slice_index l 0 ≡ 0 → fits l ≡ false
fits-zero l q = grind (arith, nat_tests)

broken-by : (at kind : ℕ) (l : List ℕ) → fits l ≡ false → listed at (kind ∷ l) ≡ broken at (kind ∷ l) ∷ []
broken-by at kind l e = listed-cons at kind l ∙ ap (λ b. cond b (first at kind l ∷ listed (at + 4 * slice_index l 0) (drop (4 * slice_index l 0 - 1) l)) (cut_short at kind l ∷ [])) e

pub listed-short : (l : List ℕ) → length l < 2 → 0 < length l → (at : ℕ) → listed at l ≡ broken at l ∷ []
listed-short [] p q at = absurd (omega arith)
listed-short (kind ∷ []) p q at = broken-by at kind [] (fits-zero [] refl)
listed-short (kind ∷ words ∷ l) p q at = absurd (omega arith)

pub listed-zero : (l : List ℕ) → get_or l 1 0 ≡ 0 → 0 < length l → (at : ℕ) → listed at l ≡ broken at l ∷ []
listed-zero [] e q at = absurd (omega arith)
listed-zero (kind ∷ l) e q at = broken-by at kind l (fits-zero l e)

pub listed-long : (l : List ℕ) → length l < 4 * get_or l 1 0 → 0 < length l → (at : ℕ) → listed at l ≡ broken at l ∷ []
listed-long [] e q at = absurd (omega arith)
listed-long (kind ∷ l) e q at = broken-by at kind l (fits-false l (omega arith))

-- the first descriptor of a list, and the list behind it
pub listed-whole : (l content more : List ℕ) → 2 ≤ length l → 0 < get_or l 1 0 → 4 * get_or l 1 0 ≤ length l
    → content ≡ take (4 * get_or l 1 0 - 2) (drop 2 l) → more ≡ drop (4 * get_or l 1 0 - 2) (drop 2 l) → (at : ℕ)
    → listed at l ≡ record { at = at; kind = get_or l 0 0; words = get_or l 1 0; content = content; whole = true } ∷ listed (at + 4 * get_or l 1 0) more
listed-whole [] content more long pos room is_content is_more at = absurd (omega arith)
listed-whole (kind ∷ []) content more long pos room is_content is_more at = absurd (omega arith)
listed-whole (kind ∷ words ∷ l) content more long pos room is_content is_more at =
    let one : 4 * words - 1 ≡ suc (4 * words - 2) = omega arith in
    listed-cons at kind (words ∷ l)
    ∙ ap (λ b. cond b (first at kind (words ∷ l) ∷ listed (at + 4 * words) (drop (4 * words - 1) (words ∷ l))) (cut_short at kind (words ∷ l) ∷ [])) (fits-true (words ∷ l) pos (omega arith))
    ∙ ap (λ k. first at kind (words ∷ l) ∷ listed (at + 4 * words) (drop k (words ∷ l))) one
    ∙ ap (λ m. first at kind (words ∷ l) ∷ listed (at + 4 * words) m) (sym is_more)
    ∙ ap (λ (m : List ℕ). record { at = at; kind = kind; words = words; content = m; whole = true } ∷ listed (at + 4 * words) more) (sym is_content)

-- the first descriptor alone
pub listed-front : (l content : List ℕ) → 2 ≤ length l → 0 < get_or l 1 0 → 4 * get_or l 1 0 ≤ length l → content ≡ take (4 * get_or l 1 0 - 2) (drop 2 l) → (at : ℕ)
    → listed at (take (4 * get_or l 1 0) l) ≡ record { at = at; kind = get_or l 0 0; words = get_or l 1 0; content = content; whole = true } ∷ []
listed-front [] content long pos room is at = absurd (omega arith)
listed-front (kind ∷ []) content long pos room is at = absurd (omega arith)
listed-front (kind ∷ words ∷ l) content long pos room is at =
    let k = 4 * words - 2 in
    let two : 4 * words ≡ suc (suc k) = omega arith in
    let len : length (take k l) ≡ k = length-take-le k l (omega arith) in
    let d : Descriptor = record { at = at; kind = kind; words = words; content = content; whole = true } in
    ap (λ n. listed at (take n (kind ∷ words ∷ l))) two
    ∙ listed-whole (kind ∷ words ∷ take k l) content [] (omega arith) pos (omega (arith, len)) (is ∙ sym (take_all k (take k l) (omega (arith, len)))) (sym (drop_all k (take k l) (omega (arith, len)))) at
    ∙ ap (λ ds. d ∷ ds) (listed-nil (at + 4 * words))

pub fits-means : (l : List ℕ) → fits l ≡ true → (0 < slice_index l 0) × (4 * slice_index l 0 ≤ length l + 1)
fits-means l e = (grind (arith, nat_tests), grind (arith, nat_tests))

pub listed-unfit : (at kind : ℕ) (l : List ℕ) → fits l ≡ false → listed at (kind ∷ l) ≡ broken at (kind ∷ l) ∷ []
listed-unfit at kind l e = broken-by at kind l e
