-- Sound descriptors that stand before others.
use Rattle.std.proofs.Common.{◌≡◌, ℕ, zero, suc, ◌+◌, ◌-◌, ◌*◌, ◌≤◌, inl, inr, true, false, List, [], ◌∷◌, ◌++◌, length, take, drop, refl, sym, ap, ◌∙◌, arith, length-drop, length-append}
use Rattle.std.specs.List.{list_all}
use Rattle.std.proofs.lemmas.Bool.{cases_Bool}
use Rattle.std.proofs.lemmas.List.{take-append-le, drop-append-le}
use Rattle.fip_codec.specs.Fip.{Descriptor}
use Rattle.fip_codec.specs.Walk.{listed, is_sound}
use Rattle.fip_codec.proofs.Sound.{and-right}
use Rattle.fip_codec.proofs.Listed.{fits, fits-means, listed-nil, listed-unfit, listed-whole}

abbrev Splits : ℕ → List ℕ → List ℕ → Type 0
Splits at a b = listed at (a ++ b) ≡ listed at a ++ listed (at + length a) b

not_short : (at kind : ℕ) (l : List ℕ) → fits l ≡ false → list_all is_sound (listed at (kind ∷ l)) ≡ true → ⊥
not_short at kind l unfit sound = let e = ap (list_all is_sound) (listed-unfit at kind l unfit) in cc

append_whole : (n at kind words : ℕ) (r b : List ℕ) → fits (words ∷ r) ≡ true
    → ((at : ℕ) (a : List ℕ) → length a ≤ n → list_all is_sound (listed at a) ≡ true → Splits at a b)
    → length r ≤ n → list_all is_sound (listed at (kind ∷ words ∷ r)) ≡ true → Splits at (kind ∷ words ∷ r) b
append_whole n at kind words r b fit rest le sound =
    let m = fits-means (words ∷ r) fit in
    let k = 4 * words - 2 in
    let room : k ≤ length r = omega arith in
    let d : Descriptor = record { at = at; kind = kind; words = words; content = take k r; whole = true } in
    let one = listed-whole (kind ∷ words ∷ r) (take k r) (drop k r) (omega arith) m.0 (omega arith) refl refl at in
    let both = listed-whole (kind ∷ words ∷ (r ++ b)) (take k r) (drop k r ++ b) (omega arith) m.0 (omega (arith, length-append r b)) (sym (take-append-le k r b room)) (sym (drop-append-le k r b room)) at in
    let place : at + 4 * words + length (drop k r) ≡ at + length (kind ∷ words ∷ r) = omega (arith, length-drop k r) in
    let all = sym (ap (list_all is_sound) one) ∙ sound in
    both ∙ ap (λ ds. d ∷ ds) (rest (at + 4 * words) (drop k r) (omega (arith, length-drop k r)) (and-right (is_sound d) (list_all is_sound (listed (at + 4 * words) (drop k r))) all))
    ∙ ap (λ p. d ∷ (listed (at + 4 * words) (drop k r) ++ listed p b)) place
    ∙ ap (λ ds. ds ++ listed (at + length (kind ∷ words ∷ r)) b) (sym one)

append_by : (n at : ℕ) (a b : List ℕ) → length a ≤ n → list_all is_sound (listed at a) ≡ true → Splits at a b
append_by n at [] b le sound = ap (λ p. listed p b) (let e : at ≡ at + 0 = omega arith in e) ∙ ap (λ ds. ds ++ listed (at + 0) b) (sym (listed-nil at))
append_by zero at (kind ∷ a) b le sound = absurd (omega arith)
append_by (suc n) at (kind ∷ []) b le sound = absurd (not_short at kind [] refl sound)
append_by (suc n) at (kind ∷ words ∷ r) b le sound =
    elim (cases_Bool (fits (words ∷ r))) as (λ _. Splits at (kind ∷ words ∷ r) b) [
      | inl fit ↦ append_whole n at kind words r b fit (λ at a le sound. append_by n at a b le sound) (omega arith) sound
      | inr unfit ↦ absurd (not_short at kind (words ∷ r) unfit sound)
    ]

pub listed-append : (at : ℕ) (a b : List ℕ) → list_all is_sound (listed at a) ≡ true → listed at (a ++ b) ≡ listed at a ++ listed (at + length a) b
listed-append at a b sound = append_by (length a) at a b (omega arith) sound
