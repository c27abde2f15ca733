-- How `--help` and `--version` end.
use Rattle.std.specs.Prelude.{◌≡◌, ℕ, ◌++◌, IsTrue, List, []}
use Rattle.fab_base.specs.Seen.{SameFiles, Seen}
use Rattle.fab_base.specs.Sunk.{Sunk}
use Rattle.fabric_tool.specs.Ending.{Also, Ending, Never, Untouched}
use Rattle.fabric_tool.specs.Help.{help_text, version_text}
use Rattle.fabric_tool.specs.Meaning.{Meaning}
use Rattle.fabric_tool.specs.declared.outcome.Outcome.{Outcome}
use Rattle.fabric_tool.specs.declared.outcome.Outcome.TheVariants as ends

-- nothing was asked of the depot: all that is seen of it is what it was
abbrev pub IsUntouched : Seen → Seen → Type 0
IsUntouched old new = new ≡ old

-- how each ends
abbrev pub help_ending : Seen → Seen → Outcome → Ending
help_ending old new ends.Help = Also (IsUntouched old new) (Untouched (Unit {0}))
help_ending old new _ = Never

abbrev pub version_ending : Seen → Seen → Outcome → Ending
version_ending old new ends.Version = Also (IsUntouched old new) (Untouched (Unit {0}))
version_ending old new _ = Never

-- Status 0 of a command that prints a text: nothing was asked of the depot, and the text was printed.
pub record TextEnded (text : List ℕ) (old new : Seen) (before after : Sunk) : Type 0 where
  pub untouched : IsUntouched old new
  pub printed : IsTrue before.told → after.written ≡ before.written ++ text

abbrev pub text_meaning : Outcome → List ℕ → (Seen → Seen → Outcome → Ending) → Meaning
text_meaning outcome text end = record {
  reads = [];
  writes = [];
  end = end;
  Done = TextEnded text;
  Front = SameFiles;
  Forms = λ d. Unit {0};
  Says = λ d o. o ≡ outcome;
}

abbrev pub help_meaning : Meaning
help_meaning = text_meaning ends.Help help_text help_ending

abbrev pub version_meaning : Meaning
version_meaning = text_meaning ends.Version version_text version_ending
