-- A run that goes on from a state, whatever led to it: what it leaves in its files, however it ends. From the state before anything
-- happened it is a run (Run.antt).
use Rattle.std.specs.Prelude.{◌≡◌, ℕ, ◌+◌, IfSome, IsTrue, List, [], ◌++◌, length, Option, Some, None, Result, Ok, Err, IsErrOf}
use Rattle.std.specs.List.{All}
use Rattle.fab_base.specs.Ending.{Either, RoseIn, end_by}
use Rattle.fab_base.specs.Seen.{Seen, Touches}
use Rattle.fab_base.specs.Slots.{NameIn}
use Rattle.fab_config.specs.Settings.{Settings}
use Rattle.pcap_file.specs.Capture.{head_bytes}
use Rattle.pcap_file.specs.declared.Budget.{Budget}
use Rattle.pcap_file.specs.declared.Record.{Record}
use Rattle.fab_policy.specs.Journal.{Journal, frame_count}
use Rattle.fab_policy.specs.Outputs.{State, state_of}
use Rattle.fab_policy.specs.Ranged.{IsRanged}
use Rattle.fab_policy.specs.State.{now_of}
use Rattle.fab_policy.specs.Text.{head_line}
use Rattle.fab_policy.specs.Written as written
use Rattle.fab_states.specs.Runs.{RunFrom, none_of}
use Rattle.fab_states.specs.Written.{piece_records, piece_text}
use Rattle.window_records.specs.First.{Start, opened_in}
use Rattle.window_records.specs.Looks.{Opened, Stop, all_records, stop}
use Rattle.window_records.specs.Port.{ending}
use Rattle.window_records.specs.Ports.{slots_of}
use Rattle.window_records.specs.Reads.{IsWhole}
use Rattle.run_files.specs.Faults.{fault_from, run_end}
use Rattle.run_files.specs.declared.fault.RunFault.{RunFault}
use Rattle.run_files.specs.declared.fault.RunFault.TheVariants as fault
use Rattle.fab_windows.specs.declared.Done.{Done}
use Rattle.fab_windows.specs.Files.{FileBytes, FileSlots, GoesOn, Hold, HoldBut, HoldFronts, Pending, Written, file_bytes}
use Rattle.fab_windows.specs.Run.{SparesFaults, keeps}

-- ---- files

-- Where a run goes on from: what the fabric kept, and what the files have before the first entry since then.
pub record Origin : Type 0 where
  pub state : State
  pub heads : FileBytes

-- that of a run from nothing: the line of the format, and the heads of captures
abbrev pub nothing_of : Settings → Origin
nothing_of c = record { state = state_of c []; heads = file_bytes head_line (λ q. head_bytes) }

-- the journal and the captures of entries since then, by ports counted from 0
abbrev pub journal_on : Origin → Journal → List ℕ
journal_on o K = o.heads.lines ++ piece_text (now_of o.state.tables) K

abbrev pub captures_on : Settings → Origin → ℕ → Journal → ℕ → List ℕ
captures_on c o n K q = o.heads.records_of q ++ piece_records c n (q + 1) o.state K

-- the same of what was written whole, or nothing where nothing was yet
abbrev pub journal_till : Origin → Option Journal → List ℕ
journal_till o None = []
journal_till o (Some I) = journal_on o I

abbrev pub captures_till : Settings → Origin → ℕ → Option Journal → ℕ → List ℕ
captures_till c o n None q = []
captures_till c o n (Some I) q = captures_on c o n I q

-- The files hold all of these entries; or all but what is still to be written; or a beginning of each, written in order from the whole
-- of earlier ones.
abbrev pub WholesOn : Settings → Origin → Seen → ℕ → List ℕ → Journal → Type 0
WholesOn c o d journal outs K = Hold d journal outs (journal_on o K) (captures_on c o (length outs) K)

pub record WholesButOn (p : Pending) (c : Settings) (o : Origin) (d : Seen) (journal : ℕ) (outs : List ℕ) (K : Journal) : Type 0 where
  pub before : Journal
  pub begins : GoesOn before K
  pub hold : HoldBut p d journal outs (file_bytes (journal_on o before) (captures_on c o (length outs) before)) (file_bytes (journal_on o K) (captures_on c o (length outs) K))

pub record FrontsOn (c : Settings) (o : Origin) (d : Seen) (journal : ℕ) (outs : List ℕ) (K : Journal) : Type 0 where
  pub before : Option Journal
  pub begins : IfSome before (λ I. GoesOn I K)
  pub hold : HoldFronts d journal outs (file_bytes (journal_till o before) (captures_till c o (length outs) before)) (file_bytes (journal_on o K) (captures_on c o (length outs) K))

-- ---- endings

-- entries that are a run over these records, from the state before them, each port's frames numbered from 0
pub record IsRunOn (c : Settings) (o : Origin) (ins : List (List Record)) (K : Journal) : Type 0 where
  pub ranged : IsRanged K
  pub run : RunFrom c o.state (none_of ins) ins K

-- A run to the end of all captures.
pub record FinishedOn (c : Settings) (o : Origin) (budget : Budget) (ins : List Opened) (d : Seen) (journal : ℕ) (outs : List ℕ) (done : Done) : Type 0 where
  pub entry_list : Journal
  pub whole : All IsWhole ins
  pub none : stop c budget.bytes budget.frames ins ≡ None
  pub run : IsRunOn c o (all_records ins) entry_list
  pub files : WholesOn c o d journal outs entry_list
  pub frames : done.frames ≡ frame_count entry_list
  pub entries : done.entries ≡ length entry_list

-- A run up to where the reading of captures stops.
pub record StoppedOn (c : Settings) (o : Origin) (budget : Budget) (ins : List Opened) (d : Seen) (journal : ℕ) (outs : List ℕ) (e : RunFault) : Type 0 where
  pub at : Stop
  pub is : stop c budget.bytes budget.frames ins ≡ Some at
  pub says : fault_from (ending at) ≡ e
  pub entry_list : Journal
  pub run : IsRunOn c o (keeps c budget ins) entry_list
  pub files : WholesOn c o d journal outs entry_list

-- A run up to some moment, of which the files are told this.
pub record InterruptedOn (c : Settings) (o : Origin) (budget : Budget) (ins : List Opened) (Files : Journal → Type 0) : Type 0 where
  pub moment : ℕ
  pub entry_list : Journal
  pub run : IsRunOn c o (written.before c moment (keeps c budget ins)) entry_list
  pub files : Files entry_list

-- What holds however a run ends.
abbrev pub EndsOn : Settings → Origin → Budget → List Opened → Seen → ℕ → List ℕ → Result Done RunFault → Type 0
EndsOn c o budget ins d journal outs (Ok done) = FinishedOn c o budget ins d journal outs done
EndsOn c o budget ins d journal outs (Err (fault.Capture port at why)) = StoppedOn c o budget ins d journal outs (fault.Capture port at why)
EndsOn c o budget ins d journal outs (Err (fault.Limit kind)) = StoppedOn c o budget ins d journal outs (fault.Limit kind)
EndsOn c o budget ins d journal outs (Err fault.Read) = InterruptedOn c o budget ins (WholesOn c o d journal outs)
EndsOn c o budget ins d journal outs (Err fault.Write) = InterruptedOn c o budget ins (FrontsOn c o d journal outs)
EndsOn c o budget ins d journal outs (Err fault.Memory) = InterruptedOn c o budget ins (FrontsOn c o d journal outs)

-- A run over captures, from where something stood.
pub record RunsOn (c : Settings) (o : Origin) (old : Start) (new : Seen) (files : FileSlots) (result : Result Done RunFault) : Type 0 where
  pub touches : Touches (Written old.seen files.journal files.outs) (Either (Written old.seen files.journal files.outs) (NameIn old.seen (slots_of old.ins))) old.seen new
  pub ends : IsTrue old.seen.told → EndsOn c o old.left (opened_in old.seen old.ins) new files.journal files.outs result
  pub read : IsErrOf result fault.Read → RoseIn (NameIn old.seen (slots_of old.ins)) old.seen.read_faults new.read_faults
  pub write : IsErrOf result fault.Write → RoseIn (Written old.seen files.journal files.outs) old.seen.write_faults new.write_faults
  pub counts : SparesFaults (end_by run_end result) old.seen new
