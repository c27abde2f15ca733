-- The number of an ENode: its port, and its MAC behind it.
use Rattle.std.specs.Prelude.{◌≡◌, ℕ, ◌+◌, ◌*◌, ◌<◌, ◌≤◌, ◌^◌, length, slice_index}
use Rattle.fab_base.specs.Layout.{big_endian}
use Rattle.fab_base.specs.declared.values.Enode.{Enode}

abbrev pub enode_number : Enode → ℕ
enode_number x = x.port * 2 ^ 48 + big_endian x.mac

-- a port from 1 to 64, and six bytes
abbrev pub IsWhole : Enode → Type 0
IsWhole x = (1 ≤ x.port) × (x.port ≤ 64) × (length x.mac ≡ 6) × ((i : ℕ) → slice_index x.mac i < 256)
