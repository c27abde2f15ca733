-- What the check of a journal answers: all of it is right, or what is the first fault.
use Rattle.std.specs.Prelude.{◌≡◌, ℕ, ◌+◌, ◌<◌, Bool, IsTrue, List, ◌++◌, length, Some, None, Result, Ok, Err, IsErrOf}
use Rattle.std.specs.List.{All}
use Rattle.fab_base.specs.Ending.{WhereSaid}
use Rattle.fab_base.specs.Seen.{Seen, Touches, Nothing}
use Rattle.fab_config.specs.Settings.{Settings}
use Rattle.pcap_file.specs.declared.Budget.{Budget}
use Rattle.fab_policy.specs.Journal.{Journal}
use Rattle.fab_policy.specs.Legal.{HoldsFrames, Run}
use Rattle.window_records.specs.Looks.{Opened, Stop, stop, all_records}
use Rattle.fab_policy.specs.Standing.{Contents, Stands}
use Rattle.fab_policy.specs.Text.{egress}
use Rattle.fab_policy.specs.Written.{IsNamed}
use Rattle.window_records.specs.Looks.{all_kept}
use Rattle.pcap_file.specs.declared.fault.GatherFault.{GatherFault}
use Rattle.pcap_file.specs.declared.fault.GatherFault.TheVariants as gather_fault
use Rattle.window_records.specs.declared.shelf.Input.{Input}
use Rattle.window_records.specs.First.{Start, opened_in, start_at}
use Rattle.window_records.specs.Port.{ending}
use Rattle.fab_base.specs.Slots.{slot_at, NameIn}
use Rattle.window_records.specs.Ports.{slots_of}
use Rattle.window_records.specs.Reads.{IsWhole}
use Rattle.fab_replay.specs.AllOutputs.{IsFirst, OneRose}
use Rattle.fab_replay.specs.Counts.{check_end}
use Rattle.fab_replay.specs.Front.{AreRightLines, IsFirstWrong}
use Rattle.fab_replay.specs.FrontFrom.{Origin, nothing_of}
use Rattle.fab_replay.specs.Remains.{Remains}
use Rattle.fab_replay.specs.declared.fault.CheckFault.{CheckFault}
use Rattle.fab_replay.specs.declared.fault.CheckFault.TheVariants as fault
use Rattle.fab_replay.specs.declared.fault.LineWhy.{LineWhy}

-- ---- what is checked

-- The captures, the text of a journal, and so many outputs with their bytes, by ports counted from 0.
pub record Matter : Type 0 where
  pub ins : List Opened
  pub journal : List ℕ
  pub outputs : ℕ
  pub found : ℕ → List ℕ

-- the same as a depot has it before a check
abbrev pub matter_in : Seen → List Input → List ℕ → List ℕ → Matter
matter_in d ins journal outs = record { ins = opened_in d ins; journal = journal; outputs = length outs; found = λ q. d.left (slot_at outs q) }

-- What a check is handed: its configuration, where it goes on from, its limits, the captures, the depot as it is at the start, the
-- journal, and the outputs.
pub record Task : Type 0 where
  pub settings : Settings
  pub from : Origin
  pub start : Start
  pub bytes : List ℕ
  pub outs : List ℕ

abbrev pub task_from : Settings → Origin → Budget → List Input → Seen → List ℕ → List ℕ → Task
task_from c o budget ins d bytes outs = record { settings = c; from = o; start = start_at d ins budget; bytes = bytes; outs = outs }

-- that of a check from nothing
abbrev pub task_of : Settings → Budget → List Input → Seen → List ℕ → List ℕ → Task
task_of c budget ins d bytes outs = task_from c (nothing_of c (all_records (opened_in d ins))) budget ins d bytes outs

-- the captures and the outputs of a task
abbrev pub slots_in : Task → List ℕ
slots_in k = slots_of k.start.ins ++ k.outs

-- the captures of a task
abbrev pub captures_in : Task → List Opened
captures_in k = opened_in k.start.seen k.start.ins

-- what is checked of a task
abbrev pub matter_of : Task → Matter
matter_of k = matter_in k.start.seen k.start.ins k.bytes k.outs

-- the capture that a journal sends on a port, counted from 0
abbrev pub sent_on : Settings → Matter → Journal → ℕ → List ℕ
sent_on c m J q = egress c (length m.ins) (q + 1) J

-- ---- what is answered

-- The text names a run over whole captures, which no limit stops.
pub record NamesRun (c : Settings) (budget : Budget) (m : Matter) (J : Journal) : Type 0 where
  pub named : IsNamed (all_records m.ins) J m.journal
  pub run : Run c (all_records m.ins) J
  pub none : stop c budget.bytes budget.frames m.ins ≡ None
  pub whole : All IsWhole m.ins

-- each output is the capture of its port
abbrev pub AreSent : Settings → Matter → Journal → Type 0
AreSent c m J = (q : ℕ) → q < m.outputs → m.found q ≡ sent_on c m J q

-- It names a run of so many entries, whose captures the outputs are.
pub record IsLegal (c : Settings) (budget : Budget) (m : Matter) (entries : ℕ) : Type 0 where
  pub entry_list : Journal
  pub names : NamesRun c budget m entry_list
  pub outputs : AreSent c m entry_list
  pub count : entries ≡ length entry_list

-- A line is wrong, it is the first, and no stop of the captures comes before it.
abbrev pub IsFirstLine : Settings → Budget → Matter → ℕ → LineWhy → Type 0
IsFirstLine c budget m line why = IsFirstWrong c (all_records m.ins) (stop c budget.bytes budget.frames m.ins) m.journal line why

-- It names a run, and an output isn't the capture of its port, the first in port order: there is the first byte that differs, is
-- missing or is too many.
pub record IsFirstOutput (c : Settings) (budget : Budget) (m : Matter) (port at : ℕ) : Type 0 where
  pub entry_list : Journal
  pub names : NamesRun c budget m entry_list
  pub first : IsFirst (Some (port, at)) m.outputs m.found (sent_on c m entry_list)

-- The reading of the captures stops, and the lines of all frames before that are right.
pub record IsFirstStop (c : Settings) (budget : Budget) (m : Matter) (e : GatherFault) : Type 0 where
  pub at : Stop
  pub is : stop c budget.bytes budget.frames m.ins ≡ Some at
  pub says : ending at ≡ e
  pub entry_list : Journal
  pub before : AreRightLines c (all_records m.ins) m.journal entry_list
  pub all : HoldsFrames entry_list 1 (all_kept c at (all_records m.ins))

-- What holds of a journal, of its captures and of its outputs where an answer tells of them: the number of entries of a run, or
-- the first fault, in the order in which windows and lines come, and the outputs last.
abbrev pub IsAnswer : Settings → Budget → Matter → Result ℕ CheckFault → Type 0
IsAnswer c budget m (Ok entries) = IsLegal c budget m entries
IsAnswer c budget m (Err (fault.Line line why)) = IsFirstLine c budget m line why
IsAnswer c budget m (Err (fault.Output port at)) = IsFirstOutput c budget m port at
IsAnswer c budget m (Err (fault.Capture port at w)) = IsFirstStop c budget m (gather_fault.Capture port at w)
IsAnswer c budget m (Err (fault.Limit kind)) = IsFirstStop c budget m (gather_fault.Limit kind)
IsAnswer c budget m (Err fault.Read) = ⊥
IsAnswer c budget m (Err fault.Memory) = ⊥

-- A fabric stands for the run.
pub record IsAccepted (c : Settings) (budget : Budget) (m : Matter) (F : Contents) (entries : ℕ) : Type 0 where
  pub legal : IsLegal c budget m entries
  pub stands : Stands F legal.entry_list

-- What the check of a journal says where the depot tells.
abbrev pub Says : Settings → Budget → Matter → Contents → Result ℕ CheckFault → Type 0
Says c budget m F (Ok entries) = IsAccepted c budget m F entries
Says c budget m F (Err e) = WhereSaid (check_end e) (IsAnswer c budget m (Err e))

-- The check of a journal: it changes no file, and it ends by a fault of reading only where a count of a capture or of an output
-- rose.
pub record Checks (k : Task) (d : Seen) (F : Contents) (result : Result ℕ CheckFault) : Type 0 where
  pub touches : Touches Nothing (NameIn k.start.seen (slots_in k)) k.start.seen d
  pub says : IsTrue k.start.seen.told → Says k.settings k.start.left (matter_of k) F result
  pub read : IsErrOf result fault.Read → OneRose (slots_in k) k.start.seen d

-- ---- what the fabric is then

-- the frames of a journal are those before the stop of the captures
pub record HasKept (c : Settings) (budget : Budget) (m : Matter) (J : Journal) : Type 0 where
  pub at : Stop
  pub is : stop c budget.bytes budget.frames m.ins ≡ Some at
  pub all : HoldsFrames J 1 (all_kept c at (all_records m.ins))

-- Where the captures stop, the lines of all frames before that were checked, and where an output differs, those of all frames.
abbrev pub HasAll : Settings → Budget → Matter → Journal → Result ℕ CheckFault → Type 0
HasAll c budget m J (Err (fault.Capture port at w)) = HasKept c budget m J
HasAll c budget m J (Err (fault.Limit kind)) = HasKept c budget m J
HasAll c budget m J (Err (fault.Output port at)) = HoldsFrames J 1 (all_records m.ins)
HasAll c budget m J r = Unit {0}

-- What a fabric stands for after the check of a journal, however it ended; where the captures are known, how far it came.
pub record Leaves (c : Settings) (budget : Budget) (m : Matter) (told : Bool) (F : Contents) (result : Result ℕ CheckFault) : Type 0 where
  pub remains : Remains c (all_records m.ins) told m.journal F result
  pub all : IsTrue told → HasAll c budget m remains.entry_list result
