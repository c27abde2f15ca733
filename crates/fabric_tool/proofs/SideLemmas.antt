-- The names of a bridge's ports, which stand behind the first two words.
use Rattle.std.proofs.Common.{◌≡◌, ℕ, suc, ◌-◌, ◌<◌, ◌≤◌, ◌%◌, List, [], ◌∷◌, length, take, drop, true, ◌&&◌, refl, sym, ◌∙◌, subst, arith, IsTrue, length-drop}
use Rattle.std.specs.Prelude.{String, nat_le, ◌==◌, codes}
use Rattle.std.specs.Str.{bytes_eq}
use Rattle.std.proofs.lemmas.Bool.{leb-true}
use Rattle.std.proofs.lemmas.List.{take_all}
use Rattle.std.specs.declared.alloc.Global.{Global}
use Rattle.fab_base.specs.Places.{name_at}
use Rattle.fab_base.specs.Seen.{Seen}
use Rattle.side_runs.specs.Sides.{AreKnown, AreDifferent}
use Rattle.fabric_tool.specs.Command.{AllKnown, has_sides, are_names, names_from, is_snoop}
use Rattle.fabric_tool.proofs.NameLemmas.{and_true, names_differ}

-- 6 to 130 words, of which no name is used twice
pub record AreSides (words : List (String Global)) : Type 0 where
  pub least : 6 ≤ length words
  pub most : length words ≤ 130
  pub names : are_names (names_from 1 words) ≡ true

pub sides : (words : List (String Global)) → is_snoop words ≡ true → AreSides words
sides words is =
    let n = length words in
    let named = and_true (has_sides words && are_names (names_from 1 words)) (bytes_eq (name_at words 0) (codes "snoop")) is in
    let both = and_true (has_sides words) (are_names (names_from 1 words)) named.0 in
    let even = and_true (nat_le 6 n && nat_le n 130) (n % 2 == 0) both.0 in
    let ends = and_true (nat_le 6 n) (nat_le n 130) even.0 in
    record { least = leb-true 6 n ends.0; most = leb-true n 130 ends.1; names = both.1 }

name_behind : (words : List (String Global)) (i : ℕ) → name_at (drop 2 words) i ≡ name_at words (suc (suc i))
name_behind [] i = refl
name_behind (x ∷ []) i = refl
name_behind (x ∷ y ∷ words) i = refl

-- what stands behind the first two words, as a slice has it
pub all_behind : (words : List (String Global)) → take (length words - 2) (drop 2 words) ≡ drop 2 words
all_behind words = let n = length-drop 2 words in take_all (length words - 2) (drop 2 words) (omega arith)

module _ (words : List (String Global)) (is : is_snoop words ≡ true) where
  count : length (drop 2 words) ≡ length words - 2
  count = length-drop 2 words

  pub few_sides : length (drop 2 words) ≤ 128
  few_sides = let most = (sides words is).most in let n = count in omega arith

  pub different_sides : AreDifferent (drop 2 words)
  different_sides i j lt within same =
      let n = count in
      names_differ words (suc (suc i)) (suc (suc j)) (sides words is).names (omega arith) (omega arith) (omega (arith, within, n)) (sym (name_behind words i) ∙ same ∙ name_behind words j)

  -- a depot that was used since knows them still
  pub known_sides : (a b : Seen) → ((m : List ℕ) → b.knows m ≡ a.knows m) → AllKnown a words → (names : List (String Global)) → names ≡ drop 2 words → AreKnown b names
  known_sides a b still known names are i lt =
      let n = count in
      let within : i < length (drop 2 words) = subst (λ (l : List (String Global)). i < length l) are lt in
      let name : name_at names i ≡ name_at words (suc (suc i)) = subst (λ (l : List (String Global)). name_at l i ≡ name_at words (suc (suc i))) (sym are) (name_behind words i) in
      subst (λ l. IsTrue (b.knows l)) (sym name) (subst IsTrue (sym (still (name_at words (suc (suc i))))) (known (suc (suc i)) (omega arith) (omega (arith, within, n))))
