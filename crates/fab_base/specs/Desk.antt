-- What a desk tells of its names and slots.
use Rattle.std.specs.Prelude.{◌≡◌, ◌≢◌, ℕ, ◌+◌, ◌-◌, ◌^◌, ◌<◌, ◌≤◌, min, Bool, List, [], ◌∷◌, ◌++◌, length, Option, None, Some, slice_get, slice_index, is_some, String, vec_capacity}
use Rattle.std.specs.String.{string_bytes}
use Rattle.std.specs.declared.alloc.Global.{Global}
use Rattle.fab_base.specs.declared.desk.Desk.{Desk}
use Rattle.fab_base.specs.declared.desk.DeskSlot.{DeskSlot}
use Rattle.fab_base.specs.Places.{place, name_at, slot_file, slot_at, is_input, is_output}

abbrev pub place_of : Desk → List ℕ → Option ℕ
place_of d name = place name d.names.items

abbrev pub knows : Desk → List ℕ → Bool
knows d name = is_some (place_of d name)

abbrev pub input : Desk → ℕ → Bool
input d s = is_input (slice_get d.slots.items s)

abbrev pub output : Desk → ℕ → Bool
output d s = is_output (slice_get d.slots.items s)

abbrev pub file_of : Desk → ℕ → ℕ
file_of d s = slot_file (slice_get d.slots.items s)

abbrev pub at_of : Desk → ℕ → ℕ
at_of d s = slot_at (slice_get d.slots.items s)

abbrev pub name : Desk → ℕ → List ℕ
name d s = name_at d.names.items (file_of d s)

-- the number at a name's place, and 0 where it is not known
abbrev pub count_at : List ℕ → Option ℕ → ℕ
count_at counts None = 0
count_at counts (Some i) = slice_index counts i

-- one more, up to the end of the type
abbrev pub one_more : ℕ → ℕ
one_more count = min (count + 1) (2 ^ 64 - 1)

-- a slot stays what it is
pub record KeepsSlot (old new : Option DeskSlot) : Type 0 where
  pub file : slot_file new ≡ slot_file old
  pub input : is_input new ≡ is_input old
  pub output : is_output new ≡ is_output old

-- what a change at one place keeps
pub record Stays (file : ℕ) (old new : Desk) : Type 0 where
  pub names : new.names.items ≡ old.names.items
  pub no_fewer : length old.slots.items ≤ length new.slots.items
  pub slots : (s : ℕ) → s < length old.slots.items → KeepsSlot (slice_get old.slots.items s) (slice_get new.slots.items s)
  pub ats : (s : ℕ) → s < length old.slots.items → file_of old s ≢ file → at_of new s ≡ at_of old s
  pub reads : (i : ℕ) → i ≢ file → slice_index new.reads.items i ≡ slice_index old.reads.items i
  pub writes : (i : ℕ) → i ≢ file → slice_index new.writes.items i ≡ slice_index old.writes.items i
  pub reads_rise : slice_index old.reads.items file ≤ slice_index new.reads.items file
  pub writes_rise : slice_index old.writes.items file ≤ slice_index new.writes.items file

-- every slot but this one is what it was, and stands where it stood
abbrev pub KeepsOtherSlots : ℕ → Desk → Desk → Type 0
KeepsOtherSlots s old new = (t : ℕ) → t ≢ s → slice_get new.slots.items t ≡ slice_get old.slots.items t

-- no count changes
pub record KeepsCounts (old new : Desk) : Type 0 where
  pub reads : new.reads.items ≡ old.reads.items
  pub writes : new.writes.items ≡ old.writes.items

-- a name stands behind the others, with both counts at 0
pub record Adds (added : List ℕ) (old new : Desk) : Type 0 where
  pub text : String Global
  pub says : string_bytes text ≡ added
  pub names : new.names.items ≡ old.names.items ++ text ∷ []
  pub reads : new.reads.items ≡ old.reads.items ++ 0 ∷ []
  pub writes : new.writes.items ≡ old.writes.items ++ 0 ∷ []
  pub slots : new.slots.items ≡ old.slots.items

-- one more slot needs no memory
abbrev pub HasRoom : Desk → Type 0
HasRoom d = length d.slots.items < vec_capacity d.slots

-- how many more slots can be opened with the memory and the numbers that there are
abbrev pub spare_slots : Desk → ℕ
spare_slots d = min (2 ^ 32) (vec_capacity d.slots) - length d.slots.items

-- nothing changes
pub record KeepsAll (old new : Desk) : Type 0 where
  pub names : new.names.items ≡ old.names.items
  pub reads : new.reads.items ≡ old.reads.items
  pub writes : new.writes.items ≡ old.writes.items
  pub slots : new.slots.items ≡ old.slots.items
