-- What the words of a line say.
use Rattle.std.specs.Prelude.{ℕ, ◌+◌, ◌-◌, ◌*◌, ◌^◌, Bool, false, ◌==◌, nat_lt, nat_le, ◌&&◌, if◌then◌else◌, List, [], ◌∷◌, Option, Some, None}

abbrev pub is_digit : ℕ → Bool
is_digit b = nat_le 48 b && nat_le b 57

-- a digit behind those of a number, below 2 ^ 64
abbrev pub with_digit : ℕ → ℕ → Option ℕ
with_digit n b = if is_digit b && nat_lt (10 * n + (b - 48)) (2 ^ 64) then Some (10 * n + (b - 48)) else None

abbrev pub value_from : Option ℕ → List ℕ → Option ℕ
value_from None l = None
value_from (Some n) [] = Some n
value_from (Some n) (b ∷ l) = value_from (with_digit n b) l

abbrev pub value_of : List ℕ → Option ℕ
value_of word = value_from (Some 0) word

-- the number that a word's decimal digits say
abbrev pub number_of : List ℕ → Option ℕ
number_of [] = None
number_of (b ∷ l) = value_of (b ∷ l)

-- the word -
abbrev pub is_none : List ℕ → Bool
is_none (b ∷ []) = b == 45
is_none l = false

-- the digits of bytes, which are none in the word -
abbrev pub digits_of : List ℕ → List ℕ
digits_of word = if is_none word then [] else word
