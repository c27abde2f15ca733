-- The names of a bridge's ports: an input and an output for each, in port order.
use Rattle.std.specs.Prelude.{◌≡◌, ℕ, ◌+◌, ◌*◌, ◌/◌, ◌<◌, List, length, map, String, IsTrue}
use Rattle.std.specs.declared.alloc.Global.{Global}
use Rattle.fab_base.specs.Places.{name_at}
use Rattle.fab_base.specs.Seen.{Seen}
use Rattle.fab_base.specs.Counting.{counting}

-- how many ports names are of
abbrev pub side_count : List (String Global) → ℕ
side_count sides = length sides / 2

-- the input and the output of a port, which is counted from 0
abbrev pub input_at : List (String Global) → ℕ → List ℕ
input_at sides port = name_at sides (2 * port)

abbrev pub output_at : List (String Global) → ℕ → List ℕ
output_at sides port = name_at sides (2 * port + 1)

-- those of all ports
abbrev pub ins_of : List (String Global) → List (List ℕ)
ins_of sides = map (input_at sides) (counting 0 (side_count sides))

abbrev pub outs_of : List (String Global) → List (List ℕ)
outs_of sides = map (output_at sides) (counting 0 (side_count sides))

-- a depot knows each of these names
abbrev pub AreKnown : Seen → List (String Global) → Type 0
AreKnown d sides = (i : ℕ) → i < length sides → IsTrue (d.knows (name_at sides i))

-- no name stands there twice
abbrev pub AreDifferent : List (String Global) → Type 0
AreDifferent sides = (i j : ℕ) → i < j → j < length sides → name_at sides i ≡ name_at sides j → ⊥
