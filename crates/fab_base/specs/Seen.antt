-- What contracts see of a depot: which names it knows, its slots, its files, and its counts of faults.
use Rattle.std.specs.Prelude.{◌≡◌, ◌≢◌, ℕ, ◌+◌, ◌-◌, ◌^◌, ◌≤◌, ◌<◌, min, Bool, false, IsTrue, ◌⊎◌, List, [], ◌++◌, length, take, Option, None, Some, Result, IfOk, OnOk, OnErr}

-- A depot at a moment. What `file` and `left` say means something only where it tells.
pub record Seen : Type 0 where
  -- whether `file` and `left` are told
  pub told : Bool
  -- whether a name is known
  pub knows : List ℕ → Bool
  -- whether a slot is an open input, and an open output
  pub input : ℕ → Bool
  pub output : ℕ → Bool
  -- the name of a slot
  pub name : ℕ → List ℕ
  -- the bytes under a name, or none
  pub file : List ℕ → Option (List ℕ)
  -- the bytes that an open input has still to give
  pub left : ℕ → List ℕ
  -- two counts for each known name
  pub read_faults : List ℕ → ℕ
  pub write_faults : List ℕ → ℕ

-- a count that rose; one that stands at its end counts as risen
abbrev pub Rose : ℕ → ℕ → Type 0
Rose before now = min (before + 1) (2 ^ 64 - 1) ≤ now

abbrev pub IsOpen : Seen → ℕ → Type 0
IsOpen d s = IsTrue (d.input s) ⊎ IsTrue (d.output s)

-- a slot is what it was
pub record SameSlot (s : ℕ) (old new : Seen) : Type 0 where
  pub input : new.input s ≡ old.input s
  pub output : new.output s ≡ old.output s
  pub name : new.name s ≡ old.name s

-- every slot is what it was: none came and none went
abbrev pub SameSlots : Seen → Seen → Type 0
SameSlots old new = (s : ℕ) → SameSlot s old new

-- so is every slot but this one
abbrev pub OtherSlots : ℕ → Seen → Seen → Type 0
OtherSlots s old new = (t : ℕ) → t ≢ s → SameSlot t old new

-- What a call leaves that changes this slot alone: every other slot is what it was, and has left what it had, also one of the
-- same name.
pub record KeepsOthers (s : ℕ) (old new : Seen) : Type 0 where
  pub slots : OtherSlots s old new
  pub left : (t : ℕ) → t ≢ s → IsTrue (old.input t) → new.left t ≡ old.left t

-- What a failed call leaves: every slot is what it was, and has left what it had.
pub record KeepsSlots (old new : Seen) : Type 0 where
  pub slots : SameSlots old new
  pub left : (s : ℕ) → IsTrue (old.input s) → new.left s ≡ old.left s

-- no count of faults of reading changes, and none of faults of writing
abbrev pub SameReadFaults : Seen → Seen → Type 0
SameReadFaults old new = (m : List ℕ) → new.read_faults m ≡ old.read_faults m

abbrev pub SameWriteFaults : Seen → Seen → Type 0
SameWriteFaults old new = (m : List ℕ) → new.write_faults m ≡ old.write_faults m

-- What every call keeps that is given this name, or a slot of it: what is told, the known names, all open slots, and of
-- every other name its file, its slots and its counts. No count falls.
pub record Keeps (name : List ℕ) (old new : Seen) : Type 0 where
  pub told : new.told ≡ old.told
  pub knows : (m : List ℕ) → new.knows m ≡ old.knows m
  pub slots : (s : ℕ) → IsOpen old s → SameSlot s old new
  pub files : (m : List ℕ) → m ≢ name → new.file m ≡ old.file m
  pub left : (s : ℕ) → IsTrue (old.input s) → old.name s ≢ name → new.left s ≡ old.left s
  pub reads : (m : List ℕ) → m ≢ name → new.read_faults m ≡ old.read_faults m
  pub writes : (m : List ℕ) → m ≢ name → new.write_faults m ≡ old.write_faults m
  pub reads_rise : old.read_faults name ≤ new.read_faults name
  pub writes_rise : old.write_faults name ≤ new.write_faults name

-- no file changes
abbrev pub SameFiles : Seen → Seen → Type 0
SameFiles old new = (m : List ℕ) → new.file m ≡ old.file m

-- what a call keeps that changes no file; it counts no fault of writing
pub record Reads (name : List ℕ) (old new : Seen) : Type 0 where
  pub keeps : Keeps name old new
  pub files : SameFiles old new
  pub writes : SameWriteFaults old new

-- What calls keep that may change files of some names, and count faults of some: what is told, the known names, all open
-- slots; every other file, rest and count. No count falls.
pub record Touches (may counted : List ℕ → Type 0) (old new : Seen) : Type 0 where
  pub told : new.told ≡ old.told
  pub knows : (m : List ℕ) → new.knows m ≡ old.knows m
  pub slots : (s : ℕ) → IsOpen old s → SameSlot s old new
  pub files : (m : List ℕ) → ¬ may m → new.file m ≡ old.file m
  pub left : (s : ℕ) → IsTrue (old.input s) → ¬ counted (old.name s) → new.left s ≡ old.left s
  pub reads : (m : List ℕ) → ¬ counted m → new.read_faults m ≡ old.read_faults m
  pub writes : (m : List ℕ) → ¬ counted m → new.write_faults m ≡ old.write_faults m
  pub reads_rise : (m : List ℕ) → old.read_faults m ≤ new.read_faults m
  pub writes_rise : (m : List ℕ) → old.write_faults m ≤ new.write_faults m

-- no name
abbrev pub Nothing : List ℕ → Type 0
Nothing m = ⊥

-- this name alone
abbrev pub Only : List ℕ → List ℕ → Type 0
Only name m = m ≡ name

-- Opening an input gives a new slot with that name, whose bytes to give are the file; no other slot comes. It fails only
-- where a fault of reading was counted, and else counts none.
pub record OpensIn {E : Type 0} (name : List ℕ) (old new : Seen) (result : Result ℕ E) : Type 0 where
  pub reads : Reads name old new
  pub fresh : IfOk result (λ s. (old.input s ≡ false) × (old.output s ≡ false))
  pub opened : IfOk result (λ s. IsTrue (new.input s) × (new.output s ≡ false) × (new.name s ≡ name))
  pub left : IsTrue old.told → IfOk result (λ s. old.file name ≡ Some (new.left s))
  pub cause : OnErr result (Rose (old.read_faults name) (new.read_faults name))
  pub others : IfOk result (λ s. KeepsOthers s old new)
  pub refused : OnErr result (KeepsSlots old new)
  pub counts : OnOk result (SameReadFaults old new)

-- Opening an output gives a new slot with that name, and the file is empty then; no other slot comes. It fails only where a
-- fault of writing was counted, and then the file stays; else it counts none, and never a fault of reading.
pub record OpensOut {E : Type 0} (name : List ℕ) (old new : Seen) (result : Result ℕ E) : Type 0 where
  pub keeps : Keeps name old new
  pub fresh : IfOk result (λ s. (old.input s ≡ false) × (old.output s ≡ false))
  pub opened : IfOk result (λ s. IsTrue (new.output s) × (new.input s ≡ false) × (new.name s ≡ name))
  pub emptied : IsTrue old.told → OnOk result (new.file name ≡ Some [])
  pub same : OnErr result (new.file name ≡ old.file name)
  pub cause : OnErr result (Rose (old.write_faults name) (new.write_faults name))
  pub others : IfOk result (λ s. OtherSlots s old new)
  pub refused : OnErr result (KeepsSlots old new)
  pub counts : OnOk result (SameWriteFaults old new)
  pub reads : SameReadFaults old new

-- A fetch from a slot into a buffer, which holds these bytes afterwards: it takes the first n bytes that are left and puts
-- them first in the buffer; 0 means that nothing is left. It fails only where a fault of reading was counted, and takes
-- nothing then; of the buffer's bytes nothing is said then. Else it counts no fault, and takes of no other slot.
pub record Fetches {E : Type 0} (s : ℕ) (buffer : List ℕ) (old new : Seen) (result : Result ℕ E) : Type 0 where
  pub reads : Reads (old.name s) old new
  pub bound : IfOk result (λ n. n ≤ length buffer)
  pub taken : IsTrue old.told → IfOk result (λ n. take n buffer ++ new.left s ≡ old.left s)
  pub ended : IsTrue old.told → IfOk result (λ n. n ≡ 0 → old.left s ≡ [])
  pub nothing : IsTrue old.told → OnErr result (new.left s ≡ old.left s)
  pub cause : OnErr result (Rose (old.read_faults (old.name s)) (new.read_faults (old.name s)))
  pub others : OnOk result (KeepsOthers s old new)
  pub refused : OnErr result (KeepsSlots old new)
  pub counts : OnOk result (SameReadFaults old new)

-- the bytes of a file; none where it is not there
abbrev pub bytes_of : Option (List ℕ) → List ℕ
bytes_of None = []
bytes_of (Some bytes) = bytes

-- A put to a slot appends the first n of these bytes, at least one, to the file of its name; every slot is what it was. It
-- fails only where a fault of writing was counted, and appends nothing then; else it counts none, and never a fault of reading.
pub record Puts {E : Type 0} (s : ℕ) (from : List ℕ) (old new : Seen) (result : Result ℕ E) : Type 0 where
  pub keeps : Keeps (old.name s) old new
  pub some : IfOk result (λ n. (1 ≤ n) × (n ≤ length from))
  pub grown : IsTrue old.told → IfOk result (λ n. new.file (old.name s) ≡ Some (bytes_of (old.file (old.name s)) ++ take n from))
  pub same : OnErr result (new.file (old.name s) ≡ old.file (old.name s))
  pub cause : OnErr result (Rose (old.write_faults (old.name s)) (new.write_faults (old.name s)))
  pub slots : SameSlots old new
  pub refused : OnErr result (KeepsSlots old new)
  pub counts : OnOk result (SameWriteFaults old new)
  pub reads : SameReadFaults old new

-- Filling a buffer from a slot takes its first n bytes from what is left; fewer than all only where nothing is left then.
-- Where it fails the buffer begins with what was taken. It takes of no other slot, and counts no fault where it succeeds.
pub record Fills {E : Type 0} (s : ℕ) (buffer : List ℕ) (old new : Seen) (result : Result ℕ E) : Type 0 where
  pub reads : Reads (old.name s) old new
  pub bound : IfOk result (λ n. n ≤ length buffer)
  pub taken : IsTrue old.told → IfOk result (λ n. take n buffer ++ new.left s ≡ old.left s)
  pub ended : IsTrue old.told → IfOk result (λ n. n < length buffer → new.left s ≡ [])
  pub cause : OnErr result (Rose (old.read_faults (old.name s)) (new.read_faults (old.name s)))
  pub front : IsTrue old.told → OnErr result ((n : ℕ) × (n ≤ length buffer) × (take n buffer ++ new.left s ≡ old.left s))
  pub others : KeepsOthers s old new
  pub counts : OnOk result (SameReadFaults old new)

-- Putting all these bytes to a slot appends them to the file of its name, or a front of them where it fails; also where there
-- is no file yet, which is as none of the bytes. Every slot is what it was, and no fault is counted where it succeeds.
pub record PutsAll {T E : Type 0} (s : ℕ) (from : List ℕ) (old new : Seen) (result : Result T E) : Type 0 where
  pub keeps : Keeps (old.name s) old new
  pub grown : IsTrue old.told → (bytes : List ℕ) → old.file (old.name s) ≡ Some bytes → OnOk result (new.file (old.name s) ≡ Some (bytes ++ from))
  pub part : IsTrue old.told → (bytes : List ℕ) → old.file (old.name s) ≡ Some bytes → (n : ℕ) × (new.file (old.name s) ≡ Some (bytes ++ take n from))
  pub cause : OnErr result (Rose (old.write_faults (old.name s)) (new.write_faults (old.name s)))
  pub all : IsTrue old.told → OnOk result (bytes_of (new.file (old.name s)) ≡ bytes_of (old.file (old.name s)) ++ from)
  pub front : IsTrue old.told → (n : ℕ) × (bytes_of (new.file (old.name s)) ≡ bytes_of (old.file (old.name s)) ++ take n from)
  pub slots : SameSlots old new
  pub counts : OnOk result (SameWriteFaults old new)
  pub reads : SameReadFaults old new
