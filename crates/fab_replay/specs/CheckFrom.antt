-- What the check of a piece answers, which goes on from a state: all of it is right, or what is the first fault. From the state before
-- anything happened it is the check of a journal (Check.antt).
use Rattle.std.specs.Prelude.{◌≡◌, ℕ, ◌+◌, ◌<◌, Bool, IsTrue, List, length, Some, None, Result, Ok, Err, IsErrOf}
use Rattle.std.specs.List.{All}
use Rattle.fab_base.specs.Ending.{WhereSaid}
use Rattle.fab_base.specs.Seen.{Seen, Touches, Nothing}
use Rattle.fab_base.specs.Slots.{NameIn}
use Rattle.fab_config.specs.Settings.{Settings}
use Rattle.pcap_file.specs.declared.Budget.{Budget}
use Rattle.pcap_file.specs.declared.fault.GatherFault.{GatherFault}
use Rattle.pcap_file.specs.declared.fault.GatherFault.TheVariants as gather_fault
use Rattle.fab_policy.specs.Journal.{Journal}
use Rattle.fab_policy.specs.Ranged.{IsRanged}
use Rattle.fab_policy.specs.Standing.{Contents}
use Rattle.window_records.specs.Looks.{Stop, stop, all_kept, all_records}
use Rattle.window_records.specs.Port.{ending}
use Rattle.window_records.specs.Reads.{IsWhole}
use Rattle.fab_states.specs.Runs.{HoldsFrom, RunFrom}
use Rattle.fab_replay.specs.AllOutputs.{IsFirst, OneRose}
use Rattle.fab_replay.specs.Check.{Matter, Task, matter_of, slots_in}
use Rattle.fab_replay.specs.Counts.{check_end}
use Rattle.fab_replay.specs.FrontFrom.{AreRightLinesFrom, IsFirstWrongFrom, Origin, RemainsFrom, StandsFrom, capture_from, now_from, text_from}
use Rattle.fab_replay.specs.Lines.{format_of}
use Rattle.fab_replay.specs.declared.fault.CheckFault.{CheckFault}
use Rattle.fab_replay.specs.declared.fault.CheckFault.TheVariants as fault
use Rattle.fab_replay.specs.declared.fault.LineWhy.{LineWhy}

-- ---- what is answered

-- the capture that entries send on a port, counted from 0
abbrev pub sent_from : Settings → Origin → Matter → Journal → ℕ → List ℕ
sent_from c o m K q = capture_from c (length m.ins) o (q + 1) K

-- The text names a run from the state over whole captures, which no limit stops.
pub record NamesRunFrom (c : Settings) (o : Origin) (budget : Budget) (m : Matter) (K : Journal) : Type 0 where
  pub ranged : IsRanged K
  pub lines : m.journal ≡ text_from (format_of m.journal) (now_from o) K
  pub run : RunFrom c o.state o.firsts (all_records m.ins) K
  pub none : stop c budget.bytes budget.frames m.ins ≡ None
  pub whole : All IsWhole m.ins

-- each output is the capture of its port
abbrev pub AreSentFrom : Settings → Origin → Matter → Journal → Type 0
AreSentFrom c o m K = (q : ℕ) → q < m.outputs → m.found q ≡ sent_from c o m K q

-- It names a run of so many entries, whose captures the outputs are.
pub record IsLegalFrom (c : Settings) (o : Origin) (budget : Budget) (m : Matter) (entries : ℕ) : Type 0 where
  pub entry_list : Journal
  pub names : NamesRunFrom c o budget m entry_list
  pub outputs : AreSentFrom c o m entry_list
  pub count : entries ≡ length entry_list

-- A line is wrong, it is the first, and no stop of the captures comes before it.
abbrev pub IsFirstLineFrom : Settings → Origin → Budget → Matter → ℕ → LineWhy → Type 0
IsFirstLineFrom c o budget m line why = IsFirstWrongFrom c o (all_records m.ins) (stop c budget.bytes budget.frames m.ins) m.journal line why

-- It names a run, and an output isn't the capture of its port, the first in port order: there is the first byte that differs, is missing or
-- is too many.
pub record IsFirstOutputFrom (c : Settings) (o : Origin) (budget : Budget) (m : Matter) (port at : ℕ) : Type 0 where
  pub entry_list : Journal
  pub names : NamesRunFrom c o budget m entry_list
  pub first : IsFirst (Some (port, at)) m.outputs m.found (sent_from c o m entry_list)

-- The reading of the captures stops, and the lines of all frames before that are right.
pub record IsFirstStopFrom (c : Settings) (o : Origin) (budget : Budget) (m : Matter) (e : GatherFault) : Type 0 where
  pub at : Stop
  pub is : stop c budget.bytes budget.frames m.ins ≡ Some at
  pub says : ending at ≡ e
  pub entry_list : Journal
  pub before : AreRightLinesFrom c o (all_records m.ins) m.journal entry_list
  pub all : HoldsFrom entry_list 1 o.firsts (all_kept c at (all_records m.ins))

-- What holds of a piece, of its captures and of its outputs where an answer tells of them: the number of entries of a run, or the first
-- fault, in the order in which windows and lines come, and the outputs last.
abbrev pub IsAnswerFrom : Settings → Origin → Budget → Matter → Result ℕ CheckFault → Type 0
IsAnswerFrom c o budget m (Ok entries) = IsLegalFrom c o budget m entries
IsAnswerFrom c o budget m (Err (fault.Line line why)) = IsFirstLineFrom c o budget m line why
IsAnswerFrom c o budget m (Err (fault.Output port at)) = IsFirstOutputFrom c o budget m port at
IsAnswerFrom c o budget m (Err (fault.Capture port at w)) = IsFirstStopFrom c o budget m (gather_fault.Capture port at w)
IsAnswerFrom c o budget m (Err (fault.Limit kind)) = IsFirstStopFrom c o budget m (gather_fault.Limit kind)
IsAnswerFrom c o budget m (Err fault.Read) = ⊥
IsAnswerFrom c o budget m (Err fault.Memory) = ⊥

-- A fabric stands for the run.
pub record IsAcceptedFrom (c : Settings) (o : Origin) (budget : Budget) (m : Matter) (F : Contents) (entries : ℕ) : Type 0 where
  pub legal : IsLegalFrom c o budget m entries
  pub stands : StandsFrom o F legal.entry_list

-- What the check of a piece says where the depot tells.
abbrev pub SaysFrom : Settings → Origin → Budget → Matter → Contents → Result ℕ CheckFault → Type 0
SaysFrom c o budget m F (Ok entries) = IsAcceptedFrom c o budget m F entries
SaysFrom c o budget m F (Err e) = WhereSaid (check_end e) (IsAnswerFrom c o budget m (Err e))

-- The check of a piece: it changes no file, and it ends by a fault of reading only where a count of a capture or of an output rose.
pub record ChecksFrom (k : Task) (d : Seen) (F : Contents) (result : Result ℕ CheckFault) : Type 0 where
  pub touches : Touches Nothing (NameIn k.start.seen (slots_in k)) k.start.seen d
  pub says : IsTrue k.start.seen.told → SaysFrom k.settings k.from k.start.left (matter_of k) F result
  pub read : IsErrOf result fault.Read → OneRose (slots_in k) k.start.seen d

-- ---- what the fabric is then

-- the frames of the entries are those before the stop of the captures
pub record HasKeptFrom (c : Settings) (o : Origin) (budget : Budget) (m : Matter) (K : Journal) : Type 0 where
  pub at : Stop
  pub is : stop c budget.bytes budget.frames m.ins ≡ Some at
  pub all : HoldsFrom K 1 o.firsts (all_kept c at (all_records m.ins))

-- Where the captures stop, the lines of all frames before that were checked, and where an output differs, those of all frames.
abbrev pub HasAllFrom : Settings → Origin → Budget → Matter → Journal → Result ℕ CheckFault → Type 0
HasAllFrom c o budget m K (Err (fault.Capture port at w)) = HasKeptFrom c o budget m K
HasAllFrom c o budget m K (Err (fault.Limit kind)) = HasKeptFrom c o budget m K
HasAllFrom c o budget m K (Err (fault.Output port at)) = HoldsFrom K 1 o.firsts (all_records m.ins)
HasAllFrom c o budget m K r = Unit {0}

-- What a fabric stands for after the check of a piece, however it ended; where the captures are known, how far it came.
pub record LeavesFrom (c : Settings) (o : Origin) (budget : Budget) (m : Matter) (told : Bool) (F : Contents) (result : Result ℕ CheckFault) : Type 0 where
  pub remains : RemainsFrom c o (all_records m.ins) told m.journal F result
  pub all : IsTrue told → HasAllFrom c o budget m remains.entry_list result
