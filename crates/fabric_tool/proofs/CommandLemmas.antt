-- The words of a command, one after another.
use Rattle.std.proofs.Common.{◌≡◌, ℕ, zero, suc, ◌+◌, ◌<◌, ◌≤◌, List, [], ◌∷◌, length, Bool, true, false, not, ◌&&◌, refl, sym, ap, ◌∙◌, arith}
use Rattle.std.specs.Prelude.{String, nat_lt, ◌==◌}
use Rattle.std.specs.List.{list_any}
use Rattle.std.specs.Str.{bytes_eq}
use Rattle.std.proofs.lemmas.Bool.{eqb-true}
use Rattle.std.specs.declared.alloc.Global.{Global}
use Rattle.fab_base.specs.Places.{name_at}
use Rattle.fabric_tool.specs.Command.{names_from, are_names}

pub names_step : (words : List (String Global)) (i : ℕ) → i < length words → names_from i words ≡ name_at words i ∷ names_from (i + 1) words
names_step [] i lt = absurd (omega arith)
names_step (w ∷ words) zero lt = refl
names_step (w ∷ words) (suc i) lt =
    names_step words i (omega arith) ∙ ap (λ (n : ℕ). name_at words i ∷ names_from n (w ∷ words)) (let e : suc (i + 1) ≡ suc i + 1 = omega arith in e)

pub names_end : (words : List (String Global)) (i : ℕ) → length words ≤ i → names_from i words ≡ []
names_end [] zero le = refl
names_end [] (suc i) le = refl
names_end (w ∷ words) zero le = absurd (omega arith)
names_end (w ∷ words) (suc i) le = names_end words i (omega arith)

-- the names from a place on: one and the rest, or none
pub ruleset names_from_there = (names_step, names_end)

-- ---- names that are none

module _ (words : List (String Global)) (first i : ℕ) where
  -- this place decides
  not_names : i < length words → are_names (names_from first words) ≡ are_names (names_from i words) → (nat_lt 0 (length (name_at words i)) && not (list_any (λ m. bytes_eq (name_at words i) m) (names_from (i + 1) words))) ≡ false → false ≡ are_names (names_from first words)
  not_names lt so_far here = sym (so_far ∙ ap are_names (names_step words i lt) ∙ ap (λ (b : Bool). b && are_names (names_from (i + 1) words)) here)

  and_false : (b : Bool) → (b && false) ≡ false
  and_false true = refl
  and_false false = refl

  pub empty_name : (m : List ℕ) → i < length words → are_names (names_from first words) ≡ are_names (names_from i words) → m ≡ name_at words i → (length m == 0) ≡ true → false ≡ are_names (names_from first words)
  empty_name m lt so_far is none =
      let empty : length (name_at words i) ≡ 0 = sym (ap (λ (l : List ℕ). length l) is) ∙ eqb-true (length m) 0 none in
      not_names lt so_far (ap (λ (n : ℕ). nat_lt 0 n && not (list_any (λ m. bytes_eq (name_at words i) m) (names_from (i + 1) words))) empty)

  pub used_name : i < length words → are_names (names_from first words) ≡ are_names (names_from i words) → list_any (λ m. bytes_eq (name_at words i) m) (names_from (i + 1) words) ≡ true → false ≡ are_names (names_from first words)
  used_name lt so_far used =
      not_names lt so_far (ap (λ (b : Bool). nat_lt 0 (length (name_at words i)) && not b) used ∙ and_false (nat_lt 0 (length (name_at words i))))
