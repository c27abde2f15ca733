-- What the private functions compute; no public clause cites this module.
use Rattle.std.specs.Prelude.{ℕ, suc, ◌+◌, ◌*◌, ◌/◌, ◌%◌, false, Bool, List, ◌++◌, flat_map, length, bit_xor, replicate, slice_index}
use Rattle.fc_check.specs.Crc.{added, bits_of, number_of, remainder}

-- four bytes as a number, the first the least significant
abbrev pub four_of : ℕ → ℕ → ℕ → ℕ → ℕ
four_of a b c d = a + 256 * (b + 256 * (c + 256 * d))

unfoldable pub four_at : List ℕ → ℕ → ℕ
four_at l i = four_of (slice_index l i) (slice_index l (i + 1)) (slice_index l (i + 2)) (slice_index l (i + 3))

-- the register that the bits of a byte leave behind in an empty one, where so many bytes of zeros follow them
unfoldable pub entry : ℕ → ℕ → ℕ
entry after i = number_of (remainder (8 * after + 8) (bits_of i ++ replicate (8 * after + 32) false))

-- the sum of what the four bytes of a number leave behind, where so many bytes of zeros follow the last
unfoldable pub words_of : ℕ → ℕ → ℕ
words_of after m =
    bit_xor (bit_xor (bit_xor (entry (suc (suc (suc after))) (m % 256)) (entry (suc (suc after)) (m / 256 % 256))) (entry (suc after) (m / 65536 % 256))) (entry after (m / 16777216 % 256))

-- the register that bytes leave behind one of these bits
unfoldable pub register_after : List Bool → List ℕ → ℕ
register_after bits l = number_of (remainder (8 * length l) (added bits (flat_map bits_of l ++ replicate 32 false)))
