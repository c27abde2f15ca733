-- How a command can end: what is left of the files, and which faults are counted.
use Rattle.std.specs.Prelude.{◌≡◌, ℕ, false, IsTrue, List}
use Rattle.std.specs.List.{list_any}
use Rattle.std.specs.Str.{bytes_eq}
use Rattle.fab_base.specs.Ending.{End, Said, Read, Write, Counts, RoseIn}
use Rattle.fab_base.specs.Seen.{Seen, SameFiles}
use Rattle.run_files.specs.Names.{Among}

-- How a command can end. What is said here of bytes needs a depot that tells them.
pub data Ending : Type 1 where
  -- it doesn't end so
  Never : Ending
  -- the inputs say this, and no output was opened
  Untouched : (says : Type 0) → Ending
  -- the outputs are so
  Leaves : (says : Type 0) → Ending
  -- an input couldn't be read, and no output was opened
  Unread : (says : Type 0) → Ending
  -- an input couldn't be read, and the outputs are so
  LeavesUnread : (says : Type 0) → Ending
  -- an output couldn't be written, and the outputs are so
  Unwritten : (says : Type 0) → Ending
  -- the same, perhaps behind an input that couldn't be read
  LeavesUnwritten : (says : Type 0) → Ending
  -- this too, also where the depot doesn't tell
  Also : (fact : Type 0) → (end : Ending) → Ending

-- a fault of reading one of these names was counted, and of writing one
abbrev pub ReadRose : List (List ℕ) → Seen → Seen → Type 0
ReadRose names old new = RoseIn (Among names) old.read_faults new.read_faults

abbrev pub WriteRose : List (List ℕ) → Seen → Seen → Type 0
WriteRose names old new = RoseIn (Among names) old.write_faults new.write_faults

-- no file changes but those of these names
abbrev pub KeepsAllBut : List (List ℕ) → Seen → Seen → Type 0
KeepsAllBut names old new = (m : List ℕ) → list_any (λ n. bytes_eq n m) names ≡ false → new.file m ≡ old.file m

-- what is counted of the faults of the depot: none, or of one kind, of one of these names
abbrev pub CountsOf : (reads writes : List (List ℕ)) → End → Seen → Seen → Type 0
CountsOf reads writes end old new = Counts (ReadRose reads old new) (WriteRose writes old new) end old new

-- What holds where a command that reads and writes these names ends so. No fault of the depot is passed over.
abbrev pub EndsBy : (reads writes : List (List ℕ)) → Seen → Seen → Ending → Type 0
EndsBy reads writes old new Never = ⊥
EndsBy reads writes old new (Untouched P) = SameFiles old new × (IsTrue old.told → P) × CountsOf reads writes Said old new
EndsBy reads writes old new (Leaves P) = KeepsAllBut writes old new × (IsTrue old.told → P) × CountsOf reads writes Said old new
EndsBy reads writes old new (Unread P) = SameFiles old new × (IsTrue old.told → P) × CountsOf reads writes Read old new
EndsBy reads writes old new (LeavesUnread P) = KeepsAllBut writes old new × (IsTrue old.told → P) × CountsOf reads writes Read old new
EndsBy reads writes old new (Unwritten P) = KeepsAllBut writes old new × (IsTrue old.told → P) × CountsOf reads writes Write old new
EndsBy reads writes old new (LeavesUnwritten P) = KeepsAllBut writes old new × (IsTrue old.told → P) × WriteRose writes old new
EndsBy reads writes old new (Also F e) = F × EndsBy reads writes old new e
