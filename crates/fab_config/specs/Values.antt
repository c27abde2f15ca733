-- What the words of a line say.
use Rattle.std.specs.Prelude.{ℕ, ◌+◌, ◌-◌, ◌*◌, Bool, not, ◌==◌, nat_le, ◌&&◌, if◌then◌else◌, List, [], ◌∷◌, ◌++◌, length, Option, Some, None, option_map, option_and_then}
use Rattle.std.specs.List.{list_any, list_all}
use Rattle.fab_base.specs.Layout.{big_endian}
pub use Rattle.fab_config.specs.Settings.{is_station}
use Rattle.fab_config.specs.Settings.{is_between, is_zone_name}

abbrev pub is_digit : ℕ → Bool
is_digit b = is_between 48 57 b

abbrev pub digits_value : ℕ → List ℕ → ℕ
digits_value n [] = n
digits_value n (b ∷ l) = digits_value (10 * n + (b - 48)) l

-- a decimal number without leading zeros
abbrev pub number : List ℕ → Option ℕ
number [] = None
number (b ∷ []) = if is_digit b then Some (b - 48) else None
number (b ∷ c ∷ l) = if not (b == 48) && list_all is_digit (b ∷ c ∷ l) then Some (digits_value 0 (b ∷ c ∷ l)) else None

-- the value of digits, where it isn't above the most
abbrev pub value_up_to : ℕ → List ℕ → Option ℕ
value_up_to most word = if list_all is_digit word && nat_le (digits_value 0 word) most then Some (digits_value 0 word) else None

abbrev pub number_between : ℕ → ℕ → List ℕ → Option ℕ
number_between least most word = option_and_then (λ n. if is_between least most n then Some n else None) (number word)

-- the value of a hexadecimal digit in either case
abbrev pub hex_value : ℕ → Option ℕ
hex_value b =
    if is_between 0x41 0x46 b then Some (b - 55)
    else if is_between 0x61 0x66 b then Some (b - 87)
    else if is_digit b then Some (b - 48)
    else None

-- the byte of two digits
abbrev pub octet : ℕ → ℕ → Option ℕ
octet h l = option_and_then (λ x. option_map (λ y. x * 16 + y) (hex_value l)) (hex_value h)

-- one byte more, where both are there
abbrev pub with_octet : Option ℕ → Option (List ℕ) → Option (List ℕ)
with_octet None more = None
with_octet (Some b) more = option_map (λ l. b ∷ l) more

-- pairs of hexadecimal digits with colons between them
abbrev pub octets : List ℕ → Option (List ℕ)
octets (h ∷ l ∷ []) = with_octet (octet h l) (Some [])
octets (h ∷ l ∷ colon ∷ rest) = if colon == 58 then with_octet (octet h l) (octets rest) else None
octets _ = None

-- so many octets
abbrev pub octets_of : ℕ → List ℕ → Option (List ℕ)
octets_of count word = option_and_then (λ l. if length l == count then Some l else None) (octets word)

abbrev pub name : List ℕ → Option ℕ
name word = option_map big_endian (octets_of 8 word)

abbrev pub station : List ℕ → Option (List ℕ)
station word = option_and_then (λ mac. if is_station mac then Some mac else None) (octets_of 6 word)

abbrev pub fc_map : List ℕ → Option ℕ
fc_map word = option_and_then (λ l. let n = big_endian l in if is_between 0x0efc00 0x0efcff n then Some n else None) (octets_of 3 word)

abbrev pub zone_name : List ℕ → Option (List ℕ)
zone_name word = if is_zone_name word then Some word else None

-- what each word says, where each says something
abbrev pub all_of : {X : Type 0} → (List ℕ → Option X) → List (List ℕ) → Option (List X)
all_of says [] = Some []
all_of says (w ∷ ws) = option_and_then (λ x. option_map (λ xs. x ∷ xs) (all_of says ws)) (says w)

-- a line's only value
abbrev pub only : {X : Type 0} → (List ℕ → Option X) → List (List ℕ) → Option X
only says (w ∷ []) = says w
only says _ = None

-- a number more, unless it stands there
abbrev pub once_more : List ℕ → ℕ → List ℕ
once_more before x = if list_any (λ y. x == y) before then before else before ++ x ∷ []

-- numbers without those that stood before
abbrev pub once_from : List ℕ → List ℕ → List ℕ
once_from before [] = []
once_from before (x ∷ xs) = if list_any (λ y. x == y) before then once_from before xs else x ∷ once_from (before ++ x ∷ []) xs

abbrev pub once : List ℕ → List ℕ
once xs = once_from [] xs

-- a line without a value, or with more than one
abbrev pub IsNotOne : List (List ℕ) → Type 0
IsNotOne [] = Unit {0}
IsNotOne (w ∷ []) = ⊥
IsNotOne (w ∷ x ∷ ws) = Unit {0}
