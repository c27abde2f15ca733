-- The words of addresses, one after another.
use Rattle.std.proofs.Common.{◌≡◌, ℕ, suc, ◌+◌, List, [], ◌∷◌, ◌++◌, take, slice_get, Some, sym, ◌∙◌, ap, append_assoc, arith, zero}
use Rattle.std.proofs.lemmas.List.{append-nil}
use Rattle.std.proofs.lemmas.List.Concat.{flat_map-append}
use Rattle.fab_policy.specs.Text.{address_words, then_word, address_word}

take-one_more : (l : List ℕ) (i a : ℕ) → slice_get l i ≡ Some a → take (i + 1) l ≡ take i l ++ a ∷ []
take-one_more [] i a e = absurd (cc)
take-one_more (x ∷ l) zero a e = let same : x ≡ a = cc in ap (λ (y : ℕ). y ∷ []) same
take-one_more (x ∷ l) (suc i) a e = ap (λ (n : ℕ). take n (x ∷ l)) (let s : suc i + 1 ≡ suc (i + 1) = omega arith in s) ∙ ap (λ m. x ∷ m) (take-one_more l i a e)

-- one more address
pub address_words-more : (l old line : List ℕ) (i a : ℕ) → slice_get l i ≡ Some a → line ≡ (old ++ address_words (take i l)) ++ then_word (address_word a) → line ≡ old ++ address_words (take (i + 1) l)
address_words-more l old line i a is e =
    e ∙ append_assoc old (address_words (take i l)) (then_word (address_word a))
    ∙ ap (λ m. old ++ m) (ap (λ m. address_words (take i l) ++ m) (sym (append-nil (then_word (address_word a)))) ∙ sym (flat_map-append (λ b. then_word (address_word b)) (take i l) (a ∷ [])) ∙ ap address_words (sym (take-one_more l i a is)))
