-- Decimal numbers, digit by digit.
use Rattle.std.proofs.Common.{◌≡◌, ℕ, ◌+◌, ◌-◌, ◌*◌, ◌<◌, ◌≤◌, List, [], ◌∷◌, length, drop, get_or, cond, leb, Some, None, ◌∙◌, ap, arith}
use Rattle.std.proofs.lemmas.List.{drop_more}
use Rattle.std.proofs.lemmas.Bool.{lt-leb, and_right}
use Rattle.std.specs.List.{list_all}
use Rattle.fab_config.specs.Values.{is_digit, digits_value, value_up_to}

-- a further digit makes no number less
pub value_grows : (n : ℕ) (l : List ℕ) → n ≤ digits_value n l
value_grows n [] = omega arith
value_grows n (b ∷ l) = let h = value_grows (10 * n + (b - 48)) l in omega (arith, h)

pub up_to_over : (most : ℕ) (l : List ℕ) (n : ℕ) (rest : List ℕ) → digits_value 0 l ≡ digits_value n rest → most < n → value_up_to most l ≡ None
up_to_over most l n rest e lt = ap (λ t. cond t (Some (digits_value 0 l)) None) (and_right (list_all is_digit l) (leb (digits_value 0 l) most) (lt-leb (digits_value 0 l) most (let h = value_grows n rest in omega (arith, h, e))))

pub value_more : (l : List ℕ) (i n : ℕ) → i < length l → digits_value 0 l ≡ digits_value n (drop i l) → digits_value 0 l ≡ digits_value (10 * n + (get_or l i 0 - 48)) (drop (i + 1) l)
value_more l i n lt e = e ∙ ap (digits_value n) (drop_more l i 0 lt)
