-- A rule is found by its word: among all rules, and among the rows of a table. So no lemma counts where a row stands.
use Rattle.std.proofs.Common.{◌≡◌, ℕ, Bool, true, false, cond, List, [], ◌∷◌, Option, Some, None, refl, sym, ap, ◌∙◌}
use Rattle.std.proofs.lemmas.Slice.Eq.{bytes_eq-Decides}
use Rattle.fab_config.specs.Settings.{same_bytes}
use Rattle.fab_policy.specs.Cause.{Cause}
use Rattle.fab_policy.specs.Private.LineWords.{SpellNone}
use Rattle.fab_policy.specs.Text.{ALL_RULES, rule_word}
use Rattle.fab_policy.specs.declared.verdict.Rule.{Rule}
use Rattle.fab_policy.specs.declared.verdict.Rule.TheVariants as rule
use Rattle.heard_frames.specs.Rows.{first_row}

-- ---- all rules

-- the first of these rules that is spelled so, or else the first of all
abbrev rule_in : List Rule → List ℕ → Rule
rule_in [] w = rule.Truncated
rule_in (r ∷ rules) w = cond (same_bytes w (rule_word r)) r (rule_in rules w)

abbrev pub rule_named : List ℕ → Rule
rule_named w = rule_in ALL_RULES w

pub rule_named-word : (r : Rule) → rule_named (rule_word r) ≡ r
rule_named-word rule.Truncated = refl
rule_named-word _ = refl

abbrev is_spelled_in : List Rule → List ℕ → Bool
is_spelled_in [] w = false
is_spelled_in (r ∷ rules) w = cond (same_bytes w (rule_word r)) true (is_spelled_in rules w)

all_are_spelled : (r : Rule) → is_spelled_in ALL_RULES (rule_word r) ≡ true
all_are_spelled rule.Truncated = refl
all_are_spelled _ = refl

none_is_spelled : (rules : List Rule) (w : List ℕ) → SpellNone rules w → is_spelled_in rules w ≡ false
none_is_spelled [] w none = refl
none_is_spelled (r ∷ rules) w none = by (same_bytes w (rule_word r)) refl (none_is_spelled rules w none.1)
  where
    by : (b : Bool) → same_bytes w (rule_word r) ≡ b → is_spelled_in rules w ≡ false → cond b true (is_spelled_in rules w) ≡ false
    by true is later = absurd (none.0 ((bytes_eq-Decides w (rule_word r)).0 is))
    by false is later = later

-- a word that is spelled by none of all rules is that of no rule
pub none_of_all : (w : List ℕ) → SpellNone ALL_RULES w → (r : Rule) → w ≡ rule_word r → ⊥
none_of_all w none r e =
    let is : false ≡ true = sym (none_is_spelled ALL_RULES w none) ∙ ap (is_spelled_in ALL_RULES) e ∙ all_are_spelled r in cc

-- ---- rows

-- the test in the row of a rule
abbrev pub test_of : Rule → List (Bool × Cause) → Bool
test_of r [] = false
test_of r (row ∷ rows) = cond (same_bytes (rule_word r) (rule_word row.1.rule)) row.0 (test_of r rows)

-- where no row drops a frame, the test of each rule is false
pub test_false : (r : Rule) (rows : List (Bool × Cause)) → first_row rows ≡ None → test_of r rows ≡ false
test_false r [] none = refl
test_false r (row ∷ rows) none = by row.0 none (test_false r rows) (same_bytes (rule_word r) (rule_word row.1.rule))
  where
    by : (test : Bool) → elim test as (λ _. Option Cause) [ true ↦ Some row.1 | false ↦ first_row rows ] ≡ None → (first_row rows ≡ None → test_of r rows ≡ false) →
        (same : Bool) → cond same test (test_of r rows) ≡ false
    by true is later same = absurd (let w : Some row.1 ≡ None = is in cc)
    by false is later true = refl
    by false is later false = later is
