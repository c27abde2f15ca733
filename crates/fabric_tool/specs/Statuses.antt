-- What each status says, of a command and of what was printed.
use Rattle.std.specs.Prelude.{◌≡◌, ℕ, ◌≤◌, IsTrue, ◌++◌, List, length, take, Some, String}
use Rattle.std.specs.declared.alloc.Global.{Global}
use Rattle.fab_base.specs.Seen.{Seen, Rose}
use Rattle.fab_base.specs.Sunk.{Sunk}
use Rattle.pcap_file.specs.declared.fault.LimitKind.{LimitKind}
use Rattle.fabric_tool.specs.Command.{Command, command}
use Rattle.fabric_tool.specs.Ending.{ReadRose, WriteRose}
use Rattle.fabric_tool.specs.Ends.{Holds, HoldsFor, inputs, meaning, outputs}
use Rattle.fabric_tool.specs.Outcome.{status_of, line_of}
use Rattle.fabric_tool.specs.declared.outcome.Outcome.{Outcome}
use Rattle.fabric_tool.specs.declared.outcome.Outcome.TheVariants as ends

-- What was printed is the line of an outcome that holds, whose status was answered; or a front of it, with status 4, where a
-- fault of the sink was counted.
pub record Printed (words : List (String Global)) (old new : Seen) (before after : Sunk) (status : ℕ) : Type 0 where
  pub outcome : Outcome
  pub holds : HoldsFor (command words) old new outcome
  pub count : ℕ
  pub front : after.written ≡ before.written ++ take count (line_of outcome)
  pub whole : ¬ Rose before.faults after.faults → (length (line_of outcome) ≤ count) × (status ≡ status_of outcome)

-- no count of an input's reads, an output's writes or the sink rose
pub record IsQuiet (k : Command) (old new : Seen) (before after : Sunk) : Type 0 where
  pub reads : ¬ ReadRose (inputs k) old new
  pub writes : ¬ WriteRose (outputs k) old new
  pub sink : ¬ Rose before.faults after.faults

-- ---- done

-- status 0: the command was done
abbrev pub Done : Command → Seen → Seen → Sunk → Sunk → Type 0
Done k old new before after = (meaning k).Done old new before after

-- words that are a command of which this holds
pub record OfCommand (words : List (String Global)) (P : Command → Type 0) : Type 0 where
  pub k : Command
  pub is : command words ≡ Some k
  pub holds : P k

-- ---- refused

-- Status 1: an input can't be taken. Of `run` and `snoop` the configuration has a fault, or a capture can't be taken; of `enode` its
-- capture; of `live` the configuration has a fault, or the stream can't be taken from a block or a packet on; of `replay` and `show` it's
-- as of `run`, or a line of the journal is wrong, and of `replay` an output is; of `convert` the pcapng file has a fault at a block; of
-- `migrate` the journal has one at a line.
abbrev pub IsRefused : Command → Seen → Seen → Type 0
IsRefused k old new = (o : Outcome) × (status_of o ≡ 1) × Holds k old new o

-- Status 6: the inputs pass a limit.
abbrev pub IsPastLimit : Command → Seen → Seen → Type 0
IsPastLimit k old new = (kind : LimitKind) × Holds k old new (ends.Limit kind)

-- ---- whatever the end

-- The outputs hold fronts of what they would hold, or are as they were; of a command without outputs nothing has changed.
abbrev pub HasFront : Command → Seen → Seen → Type 0
HasFront k old new = (meaning k).Front old new

-- ---- where nothing fails

-- the inputs of a command have their forms, where the depot tells
abbrev pub HasForms : Command → Seen → Type 0
HasForms k d = (meaning k).Forms d

-- Words that are a command, whose inputs have their forms, where nothing failed.
pub record IsComplete (words : List (String Global)) (old new : Seen) (before after : Sunk) : Type 0 where
  pub k : Command
  pub is : command words ≡ Some k
  pub forms : HasForms k old
  pub quiet : IsQuiet k old new before after

-- the outcome that the inputs of a command name
abbrev pub Says : Command → Seen → Outcome → Type 0
Says k d outcome = (meaning k).Says d outcome

-- Words that are a command, whose inputs name this outcome, where nothing failed.
pub record IsNamed (words : List (String Global)) (outcome : Outcome) (old new : Seen) (before after : Sunk) : Type 0 where
  pub k : Command
  pub is : command words ≡ Some k
  pub told : IsTrue old.told
  pub says : Says k old outcome
  pub quiet : IsQuiet k old new before after
