-- The digits of a word.
use Rattle.std.proofs.Common.{ℕ, zero, suc, ◌<◌, ◌%◌, ◌/◌, ◌^◌, arith}
use Rattle.std.specs.Int.{byte_at}
use Rattle.fab_base.specs.Layout.{spelled}
use Rattle.fab_base.proofs.LayoutLemmas.{AreBytes}

rest_of_256 : (m : ℕ) → m % 256 < 256
rest_of_256 m = omega arith

byte_at-small : (k n : ℕ) → byte_at k n < 256
byte_at-small zero n = rest_of_256 n
byte_at-small (suc k) n = rest_of_256 (n / 256 ^ suc k)

-- the bytes of a number are bytes
pub bytes_of_number : (k n : ℕ) → AreBytes (spelled k n)
bytes_of_number zero n i = omega arith
bytes_of_number (suc k) n zero = byte_at-small k n
bytes_of_number (suc k) n (suc i) = bytes_of_number k n i
