-- A division by a multiple of the polynomial with six powers; no public clause cites this module.
use Rattle.std.specs.Prelude.{ℕ, ◌+◌, ◌==◌, if◌then◌else◌, List, bit_xor, slice_index}

-- a byte without what the quotient takes from it
unfoldable pub taken : List ℕ → ℕ → ℕ → ℕ
taken room at byte =
    bit_xor (bit_xor (bit_xor (bit_xor (bit_xor byte (slice_index room (at + 14))) (slice_index room (at + 25))) (slice_index room (at + 33))) (slice_index room (at + 89))) (slice_index room (at + 107))

-- what stands in front of the quotient: four bytes that fill an empty register, and zeros before them
unfoldable pub begun : ℕ → ℕ
begun i = if i == 287 then 146 else if i == 286 then 38 else if i == 285 then 245 else if i == 284 then 98 else 0
