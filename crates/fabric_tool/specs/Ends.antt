-- What each command is to contracts, and how a call ended: by an outcome, of which the line was printed.
use Rattle.std.specs.Prelude.{◌≡◌, ℕ, ◌⊎◌, IsTrue, List, ◌++◌, take, Option, Some, None, String}
use Rattle.std.specs.declared.alloc.Global.{Global}
use Rattle.fab_base.specs.Ending.{Either}
use Rattle.fab_base.specs.Seen.{Seen, Rose, Touches}
use Rattle.fab_base.specs.Sunk.{Sunk}
use Rattle.run_files.specs.Names.{Among}
use Rattle.fabric_tool.specs.Command.{Command, Run, Replay, Show, Convert, Migrate, Make, Snoop, Enode, Live, Help, Version, command}
use Rattle.fabric_tool.specs.Ending.{KeepsAllBut}
use Rattle.fabric_tool.specs.Meaning.{Meaning, EndsAs}
use Rattle.fabric_tool.specs.Running.{run_meaning}
use Rattle.fabric_tool.specs.Checking.{replay_meaning, show_meaning}
use Rattle.fabric_tool.specs.Pairs.{convert_meaning, migrate_meaning}
use Rattle.fabric_tool.specs.Load.{make_meaning}
use Rattle.fabric_tool.specs.Snooping.{snoop_meaning}
use Rattle.fabric_tool.specs.Enode.{enode_meaning}
use Rattle.fabric_tool.specs.Living.{live_meaning}
use Rattle.fabric_tool.specs.Texts.{IsUntouched, help_meaning, version_meaning}
use Rattle.fabric_tool.specs.Outcome.{status_of, line_of}
use Rattle.fabric_tool.specs.declared.outcome.Outcome.{Outcome}
use Rattle.fabric_tool.specs.declared.outcome.Outcome.TheVariants as ends

-- what each command is to contracts
abbrev pub meaning : Command → Meaning
meaning (Run k) = run_meaning k
meaning (Replay k) = replay_meaning k
meaning (Show k) = show_meaning k
meaning (Convert k) = convert_meaning k
meaning (Migrate k) = migrate_meaning k
meaning (Make k) = make_meaning k
meaning (Snoop k) = snoop_meaning k
meaning (Enode k) = enode_meaning k
meaning (Live k) = live_meaning k
meaning Help = help_meaning
meaning Version = version_meaning

-- ---- its files

-- what a command reads, and what it writes
abbrev pub inputs : Command → List (List ℕ)
inputs k = (meaning k).reads

abbrev pub outputs : Command → List (List ℕ)
outputs k = (meaning k).writes

-- no file changes but the outputs
abbrev pub KeepsOthers : Command → Seen → Seen → Type 0
KeepsOthers k = KeepsAllBut (outputs k)

-- What a command keeps, however it ends: what is told, the known names, each slot that was open, every file but the outputs, and of names
-- that are neither inputs nor outputs their counts and what their slots have left. No count falls.
abbrev pub TouchesOwn : Command → Seen → Seen → Type 0
TouchesOwn k = Touches (Among (outputs k)) (Either (Among (inputs k)) (Among (outputs k)))

-- ---- how a call ends

-- What holds where a command ends so.
abbrev pub Holds : Command → Seen → Seen → Outcome → Type 0
Holds k = EndsAs (meaning k)

-- The same of words, which may be no command: then nothing is asked of the depot.
abbrev pub HoldsFor : Option Command → Seen → Seen → Outcome → Type 0
HoldsFor None old new outcome = (outcome ≡ ends.Words) × IsUntouched old new
HoldsFor (Some k) old new outcome = Holds k old new outcome

-- A line was put and its status answered; or a fault of the sink was counted, the status is 4, and a front of the line was
-- put.
abbrev pub Puts : List ℕ → ℕ → Sunk → Sunk → ℕ → Type 0
Puts line wanted before after status =
    ((status ≡ wanted) × (IsTrue before.told → after.written ≡ before.written ++ line))
    ⊎ ((status ≡ 4) × Rose before.faults after.faults × (IsTrue before.told → (n : ℕ) × (after.written ≡ before.written ++ take n line)))

-- the line and the status of an outcome
abbrev pub Prints : Outcome → Sunk → Sunk → ℕ → Type 0
Prints outcome = Puts (line_of outcome) (status_of outcome)

-- the outcomes whose line has numbers or a word of its own, so that it is made in memory
abbrev pub TakesMemory : Outcome → Type 0
TakesMemory (ends.Ran frames entries) = Unit {0}
TakesMemory (ends.Config fault) = Unit {0}
TakesMemory (ends.Capture port at why) = Unit {0}
TakesMemory (ends.Converted records) = Unit {0}
TakesMemory (ends.Migrated entries) = Unit {0}
TakesMemory (ends.Made frames) = Unit {0}
TakesMemory (ends.Bridged passed dropped) = Unit {0}
TakesMemory (ends.Stood last) = ⊥
TakesMemory (ends.Legal entries) = Unit {0}
TakesMemory (ends.Shown text) = ⊥
TakesMemory (ends.WrongLine line why) = Unit {0}
TakesMemory (ends.WrongOutput port at) = Unit {0}
TakesMemory (ends.BadBlock at fault) = Unit {0}
TakesMemory (ends.BadStream at fault) = Unit {0}
TakesMemory (ends.NoPort face) = Unit {0}
TakesMemory (ends.BadLine line fault) = Unit {0}
TakesMemory (ends.Limit kind) = Unit {0}
TakesMemory ends.Help = ⊥
TakesMemory ends.Version = ⊥
TakesMemory ends.Words = ⊥
TakesMemory ends.ReadFault = ⊥
TakesMemory ends.WriteFault = ⊥
TakesMemory ends.Memory = ⊥

-- an outcome was printed, or want of memory in place of one whose line takes memory
abbrev pub Reports : Outcome → Sunk → Sunk → ℕ → Type 0
Reports outcome before after status = Prints outcome before after status ⊎ (TakesMemory outcome × Prints ends.Memory before after status)

-- How a call ended: an outcome whose cause holds, and its line.
pub record Ends (words : List (String Global)) (old new : Seen) (before after : Sunk) (status : ℕ) : Type 0 where
  pub outcome : Outcome
  pub holds : HoldsFor (command words) old new outcome
  pub prints : Prints outcome before after status
