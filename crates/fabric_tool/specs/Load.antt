-- What `make` leaves in its files.
use Rattle.std.specs.Prelude.{◌≡◌, ℕ, ◌<◌, IsTrue, List, [], get_or, Some, ◌++◌}
use Rattle.fab_base.specs.Seen.{Seen}
use Rattle.fab_vectors.specs.Making.{file_text}
use Rattle.fabric_tool.specs.Command.{MakeNames}
use Rattle.fabric_tool.specs.Ending.{Ending, Never, Leaves, Unwritten, Also}
use Rattle.fabric_tool.specs.Left.{IsOldOrFront}
use Rattle.fabric_tool.specs.declared.outcome.Outcome.{Outcome}
use Rattle.fabric_tool.specs.declared.outcome.Outcome.TheVariants as ends
use Rattle.fab_base.specs.Sunk.{Sunk}
use Rattle.fabric_tool.specs.Meaning.{Meaning}
use Rattle.fabric_tool.specs.Outcome.{made_text}

-- how many frames a load has
abbrev pub LOAD : ℕ
LOAD = 20000

-- the name of a file, which is counted from 0
abbrev pub file_name : MakeNames → ℕ → List ℕ
file_name k q = get_or k.files q []

-- The first file holds the text of the load's configuration, and the others hold the captures of ports 1 to 8 for this number.
abbrev pub HasLoad : MakeNames → Seen → Type 0
HasLoad k new = (q : ℕ) → q < 9 → new.file (file_name k q) ≡ Some (file_text k.number q)

-- each file is as it was, or holds a front of that
abbrev pub HasLoadFront : MakeNames → Seen → Seen → Type 0
HasLoadFront k old new = (q : ℕ) → q < 9 → IsOldOrFront old new (file_name k q) (file_text k.number q)

-- What holds where `make` ends so. What is said of bytes needs a depot that tells them. No fault of the depot is passed over: where it
-- isn't told, no count of such faults has changed.
abbrev pub make_ending : MakeNames → Seen → Seen → Outcome → Ending
make_ending k old new (ends.Made frames) = Also (frames ≡ LOAD) (Leaves (HasLoad k new))
make_ending k old new ends.WriteFault = Unwritten (HasLoadFront k old new)
make_ending k old new ends.Memory = Leaves (HasLoadFront k old new)
make_ending k old new _ = Never

-- ---- by status

-- Status 0 of `make`: the files hold the load of the number, and the line with the number of its frames was printed.
pub record MakeEnded (k : MakeNames) (new : Seen) (before after : Sunk) : Type 0 where
  pub load : HasLoad k new
  pub printed : IsTrue before.told → after.written ≡ before.written ++ made_text LOAD

abbrev pub make_meaning : MakeNames → Meaning
make_meaning k = record {
  reads = [];
  writes = k.files;
  end = make_ending k;
  Done = λ old new before after. IsTrue old.told → MakeEnded k new before after;
  Front = HasLoadFront k;
  Forms = λ d. Unit {0};
  Says = λ d outcome. outcome ≡ ends.Made LOAD;
}
