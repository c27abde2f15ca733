-- What migrating the journal in one file to another file does.
use Rattle.std.specs.Prelude.{◌≡◌, ℕ, ◌≤◌, ◌<◌, List, length, IsTrue, Some, Result, Ok, Err}
use Rattle.fab_base.specs.Ending as ending
use Rattle.fab_base.specs.Ending.{End, WhereSaid, HoldsSome}
use Rattle.fab_base.specs.Seen.{Seen, SameFiles}
use Rattle.fab_policy.specs.Journal.{Journal}
use Rattle.fab_policy.specs.Ranged.{IsRanged}
use Rattle.fab_policy.specs.Text.{text, text1}
use Rattle.fab_policy.specs.declared.line.Line.{Line}
use Rattle.fab_migrate.specs.Old.{IsOld, HasFirstFault, new_text}
use Rattle.fab_migrate.specs.declared.old.OldError.{OldError}
use Rattle.fab_migrate.specs.declared.old.OldError.TheVariants as errors
use Rattle.fab_migrate.specs.declared.old.MigrateError.{MigrateError}
use Rattle.fab_migrate.specs.declared.old.MigrateError.TheVariants as ends

-- what an error rests on
abbrev pub old_end : OldError → End
old_end (errors.Fault line fault) = ending.Said
old_end errors.Bytes = ending.Said
old_end (errors.Read failed) = ending.Read
old_end errors.Memory = ending.Memory

-- what an error says of the bytes of a journal
abbrev pub OldSays : ℕ → List ℕ → OldError → Type 0
OldSays limit l (errors.Fault line fault) = (length l ≤ limit) × HasFirstFault l line fault
OldSays limit l errors.Bytes = limit < length l
OldSays limit l error = ⊥

-- why an input isn't migrated; a depot's fault and want of memory say nothing of its bytes
abbrev pub SaysOld : List ℕ → ℕ → Seen → OldError → Type 0
SaysOld from limit old e = WhereSaid (old_end e) ((l : List ℕ) × (old.file from ≡ Some l) × OldSays limit l e)

-- the same of the call
abbrev pub migrating_end : MigrateError → End
migrating_end (ends.Input e) = old_end e
migrating_end (ends.Write failed) = ending.Write

-- The input that was found is a journal of format 1 within the limit, and the output is the same in format 2. So where the
-- input is the text of a journal in format 1, the output is its text in format 2.
pub record Migrated (from to : List ℕ) (limit : ℕ) (old new : Seen) (count : ℕ) : Type 0 where
  pub bytes : List ℕ
  pub lines : List Line
  pub found : old.file from ≡ Some bytes
  pub within : length bytes ≤ limit
  pub is : IsOld bytes lines
  pub output : new.file to ≡ Some (new_text lines)
  pub counted : count ≡ length lines
  pub journal : (J : Journal) → IsRanged J → bytes ≡ text1 J → (new.file to ≡ Some (text J)) × (count ≡ length J)

-- The output is as it was, or it holds a front of the input's journal in format 2.
pub data IsNewFront (from to : List ℕ) (limit : ℕ) (old new : Seen) : Type 0 where
  Untouched : new.file to ≡ old.file to → IsNewFront from to limit old new
  Begun : (bytes : List ℕ) (lines : List Line) → old.file from ≡ Some bytes → length bytes ≤ limit → IsOld bytes lines → HoldsSome new to (new_text lines) → IsNewFront from to limit old new

-- How migrating ends. The output is opened only behind the whole input: an error of the input leaves every file.
abbrev pub Migrates : List ℕ → List ℕ → ℕ → Seen → Seen → Result ℕ MigrateError → Type 0
Migrates from to limit old new (Ok count) = IsTrue old.told → Migrated from to limit old new count
Migrates from to limit old new (Err (ends.Input e)) = SameFiles old new × (IsTrue old.told → SaysOld from limit old e)
Migrates from to limit old new (Err (ends.Write failed)) = IsTrue old.told → IsNewFront from to limit old new
