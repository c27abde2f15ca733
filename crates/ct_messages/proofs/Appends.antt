-- What is appended in several steps.
use Rattle.std.proofs.Common.{◌≡◌, ℕ, ◌≤◌, List, ◌++◌, take, if◌then◌else◌, Result, Ok, Err, is_ok, OnOk, ap, ◌∙◌, append_assoc}
use Rattle.std.proofs.Math.ListN.{replicate}
use Rattle.std.proofs.lemmas.List.{take-replicate}
use Rattle.fab_base.specs.Layout.{zeros}

-- zeros that were cut from longer ones
pub zeros_put : {E A : Type 0} (r : Result A E) (new old more : List ℕ) (count : ℕ) → count ≤ 255 → more ≡ take count (replicate 255 0)
    → new ≡ (if is_ok r then old ++ more else old) → OnOk r (new ≡ old ++ zeros count)
zeros_put (Ok x) new old more count fits is e = e ∙ ap (λ l. old ++ l) (is ∙ take-replicate count 255 0 fits)
zeros_put (Err x) new old more count fits is e = tt

-- five pieces, one behind the other
pub five : (old a b c d e r s t u v : List ℕ) → r ≡ old ++ a → s ≡ r ++ b → t ≡ s ++ c → u ≡ t ++ d → v ≡ u ++ e → v ≡ old ++ (a ++ b ++ c ++ d ++ e)
five old a b c d e r s t u v f g h i j =
    j ∙ ap (λ l. l ++ e) (i ∙ ap (λ l. l ++ d) (h ∙ ap (λ l. l ++ c) (g ∙ ap (λ l. l ++ b) f ∙ append_assoc old a b) ∙ append_assoc old (a ++ b) c) ∙ append_assoc old (a ++ b ++ c) d)
    ∙ append_assoc old (a ++ b ++ c ++ d) e
