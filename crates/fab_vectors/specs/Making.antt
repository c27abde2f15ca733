-- The nine files of a load: the configuration, and then the captures of ports 1 to 8.
use Rattle.std.specs.Prelude.{◌≡◌, ℕ, zero, suc, ◌<◌, IsTrue, List, [], length, slice_index, Some, Result, IfOk, OnOk}
use Rattle.fab_base.specs.Ending.{HoldsSome, end_by, Uses}
use Rattle.fab_base.specs.Seen.{Seen, Nothing}
use Rattle.fab_base.specs.Slots.{NameIn, name_of}
use Rattle.fab_vectors.specs.Files.{make_end}
use Rattle.fab_vectors.specs.Load.{capture}
use Rattle.fab_vectors.specs.Settings.{config_text}
use Rattle.fab_vectors.specs.declared.MakeFault.{MakeFault}

-- the files of a load by their place: the configuration at 0, and the capture of port p at p
abbrev pub file_text : ℕ → ℕ → List ℕ
file_text number zero = config_text
file_text number (suc q) = capture number (suc q)

-- how many frames a file has
abbrev pub frame_count : ℕ → ℕ
frame_count zero = 0
frame_count (suc q) = 2500

-- Nine open outputs of different names, which are empty where the depot tells.
pub record AreNine (d : Seen) (slots : List ℕ) : Type 0 where
  pub count : length slots ≡ 9
  pub outputs : (q : ℕ) → q < 9 → IsTrue (d.output (slice_index slots q))
  pub differ : (p q : ℕ) → p < 9 → q < 9 → name_of d slots p ≡ name_of d slots q → p ≡ q
  pub empty : IsTrue d.told → (q : ℕ) → q < 9 → d.file (name_of d slots q) ≡ Some []

-- Making a load: each file holds its text, or, where it fails, a beginning of it. No other file changes, and of the faults of the store
-- exactly that is counted in which it ends, of one of the nine.
pub record Makes (number : ℕ) (slots : List ℕ) (old new : Seen) (result : Result ℕ MakeFault) : Type 0 where
  pub uses : Uses Nothing (NameIn old slots) (end_by make_end result) old new
  pub whole : IsTrue old.told → OnOk result ((q : ℕ) → q < 9 → new.file (name_of old slots q) ≡ Some (file_text number q))
  pub front : IsTrue old.told → (q : ℕ) → q < 9 → HoldsSome new (name_of old slots q) (file_text number q)
  pub count : IfOk result (λ frames. frames ≡ 20000)
