-- A file that is read whole.
use Rattle.std.specs.Prelude.{◌≡◌, ℕ, ◌≤◌, ◌<◌, List, ◌++◌, length, IsTrue, Result, Ok, Err, Vec}
use Rattle.std.specs.declared.alloc.Global.{Global}
use Rattle.fab_base.specs.Ending as ending
use Rattle.fab_base.specs.Ending.{End, end_by, SparesReads}
use Rattle.fab_base.specs.Seen.{Seen, Reads, Rose, KeepsOthers}
use Rattle.fab_base.specs.declared.whole.WholeError.{WholeError}
use Rattle.fab_base.specs.declared.whole.WholeError.TheVariants as errors

-- how such a reading ends
abbrev pub whole_end : WholeError → End
whole_end errors.Bytes = ending.Said
whole_end (errors.Read failed) = ending.Read
whole_end errors.Memory = ending.Memory

-- What is left of a slot was read whole, or it is longer than a limit. Where memory is refused, what was taken isn't.
abbrev pub IsWhole : ℕ → ℕ → Seen → Seen → Result (Vec ℕ Global) WholeError → Type 0
IsWhole s limit old new (Ok v) = IsTrue old.told → (v.items ≡ old.left s) × (length v.items ≤ limit)
IsWhole s limit old new (Err errors.Bytes) = IsTrue old.told → limit < length (old.left s)
IsWhole s limit old new (Err (errors.Read failed)) = Rose (old.read_faults (old.name s)) (new.read_faults (old.name s))
IsWhole s limit old new (Err errors.Memory) = IsTrue old.told → (taken : List ℕ) × (taken ++ new.left s ≡ old.left s) × (length taken ≤ limit)

-- Of no other slot anything is taken. What is left of this one is the end of what was.
pub record WholeRead (s limit : ℕ) (old new : Seen) (result : Result (Vec ℕ Global) WholeError) : Type 0 where
  pub reads : Reads (old.name s) old new
  pub whole : IsWhole s limit old new result
  pub counts : SparesReads (end_by whole_end result) old new
  pub others : KeepsOthers s old new
  pub rest : IsTrue old.told → (taken : List ℕ) × (taken ++ new.left s ≡ old.left s)
