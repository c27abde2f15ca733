-- Several slots, by their places.
use Rattle.std.specs.Prelude.{◌≡◌, ℕ, ◌<◌, List, length, slice_index}
use Rattle.fab_base.specs.Seen.{Seen}

-- the slot at a place
abbrev pub slot_at : List ℕ → ℕ → ℕ
slot_at slots q = slice_index slots q

-- the name of one of these slots
abbrev pub name_of : Seen → List ℕ → ℕ → List ℕ
name_of d slots q = d.name (slot_at slots q)

-- a name of one of them
abbrev pub NameIn : Seen → List ℕ → List ℕ → Type 0
NameIn d slots m = (q : ℕ) × (q < length slots) × (m ≡ name_of d slots q)
