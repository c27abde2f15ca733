-- A depot that knows its names and counts its faults, and tells no content.
use Rattle.std.specs.Prelude.{◌≡◌, ◌≢◌, ℕ, ◌<◌, IsTrue, List, length, false, [], ◌∷◌, ◌++◌, String, Option, Some, Result, slice_get}
use Rattle.std.specs.Io.KnownBytes.{ReadConsumes, WriteAppends}
use Rattle.std.specs.declared.alloc.Global.{Global}
use Rattle.fab_base.specs.Seen.{Seen}
use Rattle.fab_base.specs.Sunk.{Sunk}
use Rattle.fab_base.specs.declared.values.Failed.{Failed}
use Rattle.fab_base.specs.Desk.{knows, at_of}
use Rattle.fab_base.specs.Places.{name_at}
use Rattle.fab_base.specs.MemDepot.{seen_of}
use Rattle.fab_base.specs.declared.desk.Desk.{Desk}

abbrev pub untold : Desk → Seen
untold d = record (seen_of d []) { told = false }

-- a desk knows each of these words
abbrev pub KnowsAll : Desk → List (String Global) → Type 0
KnowsAll d words = (k : ℕ) → k < length words → IsTrue (knows d (name_at words k))

-- a sink that counts its faults, and tells no content
abbrev pub untold_sink : ℕ → Sunk
untold_sink faults = record { told = false; written = []; faults = faults }

-- ---- one call of a file, whose bytes are known or not

-- one file more, at which this slot stands
pub record AddsFile {F : Type 0} (s : ℕ) (old new : List F) (now : Desk) : Type 0 where
  pub file : F
  pub files : new ≡ old ++ file ∷ []
  pub at : at_of now s ≡ length old

-- no file came and no slot, and each has what it had
pub record HasSame {F : Type 0} (old new : Desk) (before after : List F) : Type 0 where
  pub slots : new.slots.items ≡ old.slots.items
  pub files : after ≡ before

-- the other files are as they were
pub record SameOthers {F : Type 0} (at : ℕ) (old new : List F) : Type 0 where
  pub count : length new ≡ length old
  pub others : (i : ℕ) → i ≢ at → slice_get new i ≡ slice_get old i

-- A read took the first bytes that the file at a place has left, none only at the end or with no room, or it took nothing.
pub record ReadsAt {F : Type 0} (remaining : F → Option (List ℕ)) (at : ℕ) (old new : List F) (into : List ℕ) (result : Result ℕ Failed) : Type 0 where
  pub same : SameOthers at old new
  pub takes : (f g : F) → slice_get old at ≡ Some f → slice_get new at ≡ Some g → ReadConsumes (remaining f) (remaining g) result into

-- A write appended the first of these bytes to the file at a place, or nothing.
pub record WritesAt {F : Type 0} (contents : F → Option (List ℕ)) (at : ℕ) (old new : List F) (from : List ℕ) (result : Result ℕ Failed) : Type 0 where
  pub same : SameOthers at old new
  pub adds : (f g : F) → slice_get old at ≡ Some f → slice_get new at ≡ Some g → WriteAppends (contents f) (contents g) result from
