-- Rows of bits, one for each place, in words of 64.
use Rattle.std.specs.Prelude.{◌≡◌, ℕ, ◌/◌, ◌%◌, ◌<◌, ◌≤◌, ◌==◌, ◌&&◌, Bool, true, false, List, Option, Some, None, slice_index}
use Rattle.std.specs.Int.{bit_at}

-- a row has the bit of a place, and none behind its last word
unfoldable pub has : List ℕ → ℕ → Bool
has row place = bit_at (slice_index row (place / 64)) (place % 64) == 1

abbrev pub all_have : List ℕ → List ℕ → List ℕ → ℕ → Bool
all_have xs ys zs place = has xs place && (has ys place && has zs place)

-- three rows have a place in common
abbrev pub IsCommon : List ℕ → List ℕ → List ℕ → Type 0
IsCommon xs ys zs = (place : ℕ) × (all_have xs ys zs place ≡ true)

abbrev pub HasNone : List ℕ → List ℕ → List ℕ → Type 0
HasNone xs ys zs = (place : ℕ) → all_have xs ys zs place ≡ false

-- no bit is set from a place on, up to another
abbrev pub AreClear : List ℕ → ℕ → ℕ → Type 0
AreClear row from to = (place : ℕ) → from ≤ place → place < to → has row place ≡ false

-- the least place from this one on whose bit is set, or none
abbrev pub IsNextBit : List ℕ → ℕ → Option ℕ → Type 0
IsNextBit row from None = (place : ℕ) → from ≤ place → has row place ≡ false
IsNextBit row from (Some next) = (from ≤ next) × (has row next ≡ true) × AreClear row from next
