-- What writing a piece to each of several outputs keeps and leaves.
use Rattle.std.specs.Prelude.{◌≡◌, ℕ, ◌<◌, IsTrue, List, ◌++◌, length, take, Some, Result, OnOk, OnErr}
use Rattle.fab_base.specs.Seen.{Seen, Rose, Touches, SameReadFaults, SameWriteFaults}
use Rattle.fab_base.specs.declared.values.Failed.{Failed}
use Rattle.fab_base.specs.Slots.{slot_at, name_of, NameIn}
use Rattle.run_files.specs.Pages.{piece_at}

-- slots that are open outputs of different names
pub record AreOutputs (d : Seen) (slots : List ℕ) : Type 0 where
  pub outputs : (q : ℕ) → q < length slots → IsTrue (d.output (slot_at slots q))
  pub differ : (p q : ℕ) → p < length slots → q < length slots → name_of d slots p ≡ name_of d slots q → p ≡ q

-- Putting failed at one of several outputs: a fault of it was counted, those before it have their pieces, and those behind it are
-- as they were.
pub record FailsAt (q : ℕ) (slots : List ℕ) (pieces : List (List ℕ)) (old new : Seen) : Type 0 where
  pub within : q < length slots
  pub rose : Rose (old.write_faults (name_of old slots q)) (new.write_faults (name_of old slots q))
  pub before : IsTrue old.told → (p : ℕ) → p < q → (bytes : List ℕ) → old.file (name_of old slots p) ≡ Some bytes → new.file (name_of old slots p) ≡ Some (bytes ++ piece_at pieces p)
  pub behind : (p : ℕ) → q < p → p < length slots → new.file (name_of old slots p) ≡ old.file (name_of old slots p)

-- Putting a piece to each of several outputs, in their order, appends each to its file, or, where it fails, a front of each. No fault
-- is counted where it succeeds, and never one of reading.
pub record PutsEach (slots : List ℕ) (pieces : List (List ℕ)) (old new : Seen) (result : Result (Unit {0}) Failed) : Type 0 where
  pub touches : Touches (NameIn old slots) (NameIn old slots) old new
  pub all : IsTrue old.told → (q : ℕ) → q < length slots → (bytes : List ℕ) → old.file (name_of old slots q) ≡ Some bytes → OnOk result (new.file (name_of old slots q) ≡ Some (bytes ++ piece_at pieces q))
  pub part : IsTrue old.told → (q : ℕ) → q < length slots → (bytes : List ℕ) → old.file (name_of old slots q) ≡ Some bytes → (n : ℕ) × (new.file (name_of old slots q) ≡ Some (bytes ++ take n (piece_at pieces q)))
  pub cause : OnErr result ((q : ℕ) × FailsAt q slots pieces old new)
  pub reads : SameReadFaults old new
  pub counts : OnOk result (SameWriteFaults old new)
