-- Reading the words of a verdict.
use Rattle.std.proofs.Common.{◌≡◌, ℕ, ◌<◌, ◌^◌, true, false, is_some, IfSome, List, [], ◌∷◌, ◌++◌, Option, Some, None, sym, ◌∙◌, ap, subst, append_assoc, codes, decimal, arith}
use Rattle.fab_config.specs.Settings.{same_bytes}
use Rattle.fab_policy.specs.Cause.{Cause, is_numbered}
use Rattle.fab_policy.specs.Ranged.{IsRangedVerdict}
use Rattle.fab_policy.specs.Private.LineWords.{Finds, IsNext, IsSpelledAfter, number_words, rest_of, verdict_words}
use Rattle.fab_policy.specs.Text.{SPACE, LINE_FEED, then_word, rule_word}
use Rattle.fab_policy.specs.declared.verdict.Rule.{Rule}
use Rattle.fab_policy.specs.declared.verdict.Verdict.{Verdict}
use Rattle.fab_policy.specs.declared.verdict.Verdict.TheVariants.{Dropped}
use Rattle.fab_policy.proofs.ReadLemmas.{other_number}
use Rattle.fab_policy.proofs.SpellingLemmas.{verdict_inside}
use Rattle.fab_policy.proofs.WordLemmas.{AreWords, cut_once, rest_ends}

-- ---- one more word

words_behind : (ws xs : List (List ℕ)) → AreWords (ws ++ xs) → AreWords xs
words_behind [] xs are = are
words_behind (w ∷ ws) xs are = words_behind ws xs are.1

next_of : (more : List (List ℕ)) (rest word behind : List ℕ) → AreWords more → rest ≡ rest_of more → IsNext rest word behind → (less : List (List ℕ)) × (more ≡ word ∷ less) × (behind ≡ rest_of less)
next_of [] rest word behind are is next = absurd (let both = sym is ∙ next.parts in let differ : LINE_FEED ≡ SPACE = cc in cc)
next_of (x ∷ more) rest word behind are is next =
    let both : then_word (x ++ rest_of more) ≡ then_word (word ++ behind) = sym is ∙ next.parts in
    let tails : x ++ rest_of more ≡ word ++ behind = cc in
    let cut = cut_once x word (rest_of more) behind are.0 next.inside (rest_ends more) next.ends tails in
    (more, let same : x ≡ word = cut.0 in cc, sym cut.1)

one_more : (ws : List (List ℕ)) (rest word behind : List ℕ) (v : Verdict) → IsNext rest word behind → IsRangedVerdict v → IsSpelledAfter ws rest v → IsSpelledAfter (ws ++ word ∷ []) behind v
one_more ws rest word behind v next ranged after =
    let P : List (List ℕ) → Type 0 = AreWords in
    let are = words_behind ws after.more (subst P after.words (verdict_inside v ranged)) in
    let of = next_of after.more rest word behind are after.behind next in
    record { more = of.0; words = after.words ∙ ap (λ l. ws ++ l) of.1 ∙ sym (append_assoc ws (word ∷ []) of.0); behind = of.2 }

one_less : (ws : List (List ℕ)) (rest word behind : List ℕ) (v : Verdict) → IsNext rest word behind → IsSpelledAfter (ws ++ word ∷ []) behind v → IsSpelledAfter ws rest v
one_less ws rest word behind v next after =
    record { more = word ∷ after.more; words = after.words ∙ append_assoc ws (word ∷ []) after.more; behind = next.parts ∙ ap (λ l. then_word (word ++ l)) after.behind }

-- what is found behind one more word is found behind those before it
pub found_more : (ws : List (List ℕ)) (rest word behind : List ℕ) (r : Option Verdict) → IsNext rest word behind → Finds (λ v. IsRangedVerdict v × IsSpelledAfter (ws ++ word ∷ []) behind v) r →
    Finds (λ v. IsRangedVerdict v × IsSpelledAfter ws rest v) r
found_more ws rest word behind None next none = λ v is. none v (is.0, one_more ws rest word behind v next is.0 is.1)
found_more ws rest word behind (Some v) next some = (some.0, one_less ws rest word behind v next some.1)

-- ---- dropped frames

cause_none : (rule number : List ℕ) (n : ℕ) (r : Rule) (m : Option ℕ) → (n < 2 ^ 64) × (number ≡ decimal n) → ((c : Cause) → (rule ≡ rule_word c.rule) × (c.number ≡ Some n) × (is_some c.number ≡ is_numbered c.rule) → ⊥) →
    is_some m ≡ is_numbered r → IfSome m (λ k. k < 2 ^ 32) → codes "dropped" ∷ rule_word r ∷ number_words m ≡ codes "dropped" ∷ rule ∷ number ∷ [] → ⊥
cause_none rule number n r None is none numbered small e = cc
cause_none rule number n r (Some m) is none numbered small e =
    let word : rule_word r ≡ rule = cc in
    let digits : decimal m ≡ number = cc in
    let same : m ≡ n = other_number number n is m (omega arith) (sym digits) in
    none (record { rule = r; number = Some m }) (sym word, ap Some same, numbered)

abbrev first_of : List (List ℕ) → List ℕ
first_of [] = []
first_of (w ∷ ws) = w

-- a number and no rule for it
pub numbered_none : (rule number : List ℕ) (n : ℕ) → (n < 2 ^ 64) × (number ≡ decimal n) → ((c : Cause) → (rule ≡ rule_word c.rule) × (c.number ≡ Some n) × (is_some c.number ≡ is_numbered c.rule) → ⊥) →
    (v : Verdict) → IsRangedVerdict v × (verdict_words v ≡ codes "dropped" ∷ rule ∷ number ∷ []) → ⊥
numbered_none rule number n is none (Dropped cause) v = cause_none rule number n cause.rule cause.number is none v.0.0 v.0.1 v.1
numbered_none rule number n is none _ v = let differ : false ≡ true = ap (λ l. same_bytes (first_of l) (codes "dropped")) v.1 in absurd (cc)
