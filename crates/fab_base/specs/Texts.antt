-- Names and addresses as hexadecimal text in lower case.
use Rattle.std.specs.Prelude.{ℕ, zero, suc, ◌+◌, ◌/◌, ◌%◌, nat_lt, if◌then◌else◌, List, [], ◌∷◌, ◌++◌, flat_map}

-- a digit below 16
abbrev pub hex_digit : ℕ → ℕ
hex_digit d = if nat_lt d 10 then 48 + d else 87 + d

-- so many hexadecimal digits of a number
abbrev pub hex : ℕ → ℕ → List ℕ
hex zero n = []
hex (suc count) n = hex count (n / 16) ++ hex_digit (n % 16) ∷ []

-- two digits for each byte
abbrev pub hex_bytes : List ℕ → List ℕ
hex_bytes bytes = flat_map (hex 2) bytes
