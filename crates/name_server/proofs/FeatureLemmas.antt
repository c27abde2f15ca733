-- The words of the features, as they are filled.
use Rattle.std.proofs.Common.{◌≡◌, ℕ, ◌+◌, ◌*◌, ◌<◌, List, [], ◌∷◌, ◌++◌, zero-add, length, take, set, map, sym, ◌∙◌, ap, arith, lit<, take_all}
use Rattle.std.specs.List.{range_with_len}
use Rattle.std.proofs.lemmas.List.{length-replicate}
use Rattle.std.proofs.lemmas.List.Elements.{All-replicate}
use Rattle.std.proofs.lemmas.Grind.{take-set_at}
use Rattle.std.proofs.lemmas.List.FromFn.{map-range_with_len_more}
use Rattle.ct_messages.specs.Server.{NO_FEATURES, first_values, feature_word, feature_words}
use Rattle.name_server.specs.Registry.{IsKept}

-- one more word
pub words-more : (features words : List ℕ) (i n v : ℕ) → i < length words → n ≡ i + 1 → v ≡ feature_word features (8 * i) →
    take i words ≡ map (λ w. feature_word features (8 * w)) (range_with_len 0 i) →
    take n (set words i v) ≡ map (λ w. feature_word features (8 * w)) (range_with_len 0 n)
words-more features words i n v within next is done =
    take-set_at words i n v next within
    ∙ ap (λ l. l ++ v ∷ []) done
    ∙ ap (λ x. map (λ w. feature_word features (8 * w)) (range_with_len 0 i) ++ x ∷ []) is
    ∙ sym (map-range_with_len_more (λ w. feature_word features (8 * w)) 0 i i (zero-add i))
    ∙ ap (λ m. map (λ w. feature_word features (8 * w)) (range_with_len 0 m)) (sym next)

-- no feature of any type is above four bits
pub first_kept : (node : ℕ) → IsKept (first_values node)
unfolding NO_FEATURES
first_kept node = record {
  features = length-replicate {A = ℕ} 256 0;
  range = All-replicate (λ feature. feature < 16) 256 0 (lit< tt);
  symbol = omega arith;
  node_symbol = omega arith;
}

-- all words
pub all_words : (features words : List ℕ) (n : ℕ) → length words ≡ 32 → n ≡ 32 →
    take n words ≡ map (λ w. feature_word features (8 * w)) (range_with_len 0 n) → words ≡ (feature_words features).0
unfolding feature_words
all_words features words n long end done =
    sym (take_all n words (omega (arith, long, end))) ∙ done ∙ ap (λ m. map (λ w. feature_word features (8 * w)) (range_with_len 0 m)) end
