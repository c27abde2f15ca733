-- What a command is to contracts.
use Rattle.std.specs.Prelude.{ℕ, List}
use Rattle.fab_base.specs.Seen.{Seen}
use Rattle.fab_base.specs.Sunk.{Sunk}
use Rattle.fabric_tool.specs.Ending.{Ending, EndsBy}
use Rattle.fabric_tool.specs.declared.outcome.Outcome.{Outcome}

-- The meaning of a command. Each command has one, in the file of its own words, and a row in `meaning`.
pub record Meaning : Type 1 where
  -- the names of what it reads, and of what it writes
  pub reads : List (List ℕ)
  pub writes : List (List ℕ)
  -- how it ends by an outcome
  pub end : Seen → Seen → Outcome → Ending
  -- what status 0 says, of the files and of what was printed
  pub Done : Seen → Seen → Sunk → Sunk → Type 0
  -- whatever the end, where the depot tells: the outputs hold fronts of what they would hold, or are as they were
  pub Front : Seen → Seen → Type 0
  -- the inputs have their forms
  pub Forms : Seen → Type 0
  -- the inputs name this outcome
  pub Says : Seen → Outcome → Type 0

-- what holds where a command of this meaning ends so
abbrev pub EndsAs : Meaning → Seen → Seen → Outcome → Type 0
EndsAs m old new outcome = EndsBy m.reads m.writes old new (m.end old new outcome)
