-- What a run over captures leaves in its files, however it ends.
use Rattle.std.specs.Prelude.{◌≡◌, ℕ, ◌<◌, IsTrue, List, [], length, map, Some, None, Result, Ok, Err, IsErrOf}
use Rattle.std.specs.List.{All}
use Rattle.fab_base.specs.Ending.{End, Write, end_by, SparesReads, SparesWrites, Either, RoseIn}
use Rattle.fab_base.specs.Seen.{Seen, Touches}
use Rattle.fab_config.specs.Settings.{Settings}
use Rattle.pcap_file.specs.declared.Budget.{Budget}
use Rattle.pcap_file.specs.declared.Record.{Record}
use Rattle.fab_policy.specs.Journal.{Journal, frame_count}
use Rattle.fab_policy.specs.Legal.{Run}
use Rattle.window_records.specs.Looks.{Opened, Stop, stop, kept, all_records}
use Rattle.fab_policy.specs.Ranged.{IsRanged}
use Rattle.fab_policy.specs.Written.{before}
use Rattle.window_records.specs.declared.shelf.Input.{Input}
use Rattle.run_files.specs.declared.fault.RunFault.{RunFault}
use Rattle.run_files.specs.declared.fault.RunFault.TheVariants as fault
use Rattle.window_records.specs.First.{opened_in, AreFresh, Start}
use Rattle.window_records.specs.Port.{ending}
use Rattle.fab_base.specs.Slots.{name_of, NameIn}
use Rattle.window_records.specs.Ports.{slots_of, AreInputs}
use Rattle.window_records.specs.Reads.{IsWhole}
use Rattle.fab_windows.specs.declared.Done.{Done}
use Rattle.run_files.specs.Faults.{fault_from, run_end}
use Rattle.fab_windows.specs.Files.{Written, FileSlots, AreFiles, Wholes, Fronts}

-- ---- what is handed in

-- Each reader is as it was opened, for an open input, and all files have different names.
pub record AreGiven (d : Seen) (ins : List Input) (journal : ℕ) (outs : List ℕ) : Type 0 where
  pub inputs : AreInputs d (slots_of ins)
  pub files : AreFiles d journal outs
  pub apart : (m : List ℕ) → NameIn d (slots_of ins) m → ¬ Written d journal outs m
  pub fresh : AreFresh ins
  pub empty : IsTrue d.told → (d.file (d.name journal) ≡ Some []) × ((q : ℕ) → q < length outs → d.file (name_of d outs q) ≡ Some [])

-- ---- endings

-- one journal that is a run over these records
pub record IsRunOver (c : Settings) (ins : List (List Record)) (J : Journal) : Type 0 where
  pub ranged : IsRanged J
  pub run : Run c ins J

-- the records of the ports that are kept
abbrev pub keeps : Settings → Budget → List Opened → List (List Record)
keeps c budget ins = map (kept c (stop c budget.bytes budget.frames ins)) (all_records ins)

-- A run to the end of all captures.
pub record Finished (c : Settings) (budget : Budget) (ins : List Opened) (d : Seen) (journal : ℕ) (outs : List ℕ) (done : Done) : Type 0 where
  pub entry_list : Journal
  pub whole : All IsWhole ins
  pub none : stop c budget.bytes budget.frames ins ≡ None
  pub run : IsRunOver c (all_records ins) entry_list
  pub files : Wholes c d journal outs entry_list
  pub frames : done.frames ≡ frame_count entry_list
  pub entries : done.entries ≡ length entry_list

-- A run up to where the reading of captures stops.
pub record Stopped (c : Settings) (budget : Budget) (ins : List Opened) (d : Seen) (journal : ℕ) (outs : List ℕ) (e : RunFault) : Type 0 where
  pub at : Stop
  pub is : stop c budget.bytes budget.frames ins ≡ Some at
  pub says : fault_from (ending at) ≡ e
  pub entry_list : Journal
  pub run : IsRunOver c (keeps c budget ins) entry_list
  pub files : Wholes c d journal outs entry_list

-- A run up to some moment, of which the files are told this.
pub record Interrupted (c : Settings) (budget : Budget) (ins : List Opened) (Files : Journal → Type 0) : Type 0 where
  pub moment : ℕ
  pub entry_list : Journal
  pub run : IsRunOver c (before c moment (keeps c budget ins)) entry_list
  pub files : Files entry_list

-- What holds however a run ends. What is said of bytes needs a depot that tells them.
abbrev pub Ends : Settings → Budget → List Opened → Seen → ℕ → List ℕ → Result Done RunFault → Type 0
Ends c budget ins d journal outs (Ok done) = Finished c budget ins d journal outs done
Ends c budget ins d journal outs (Err (fault.Capture port at why)) = Stopped c budget ins d journal outs (fault.Capture port at why)
Ends c budget ins d journal outs (Err (fault.Limit kind)) = Stopped c budget ins d journal outs (fault.Limit kind)
Ends c budget ins d journal outs (Err fault.Read) = Interrupted c budget ins (Wholes c d journal outs)
Ends c budget ins d journal outs (Err fault.Write) = Interrupted c budget ins (Fronts c d journal outs)
Ends c budget ins d journal outs (Err fault.Memory) = Interrupted c budget ins (Fronts c d journal outs)

-- No fault of the store is passed over. Where a run ends in one of writing, one of reading may have been counted too, behind which what
-- was still to be written couldn't be.
abbrev pub SparesFaults : End → Seen → Seen → Type 0
SparesFaults Write old new = Unit {0}
SparesFaults end old new = SparesReads end old new × SparesWrites end old new

-- A run over captures.
pub record Runs (c : Settings) (old : Start) (new : Seen) (files : FileSlots) (result : Result Done RunFault) : Type 0 where
  pub touches : Touches (Written old.seen files.journal files.outs) (Either (Written old.seen files.journal files.outs) (NameIn old.seen (slots_of old.ins))) old.seen new
  pub ends : IsTrue old.seen.told → Ends c old.left (opened_in old.seen old.ins) new files.journal files.outs result
  pub read : IsErrOf result fault.Read → RoseIn (NameIn old.seen (slots_of old.ins)) old.seen.read_faults new.read_faults
  pub write : IsErrOf result fault.Write → RoseIn (Written old.seen files.journal files.outs) old.seen.write_faults new.write_faults
  pub counts : SparesFaults (end_by run_end result) old.seen new
