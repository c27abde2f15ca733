-- What `replay` and `show` find: a journal, and outputs, checked against captures.
use Rattle.std.specs.Prelude.{◌≡◌, ℕ, ◌+◌, ◌-◌, ◌*◌, ◌≤◌, ◌<◌, ◌⊎◌, IsTrue, List, [], ◌∷◌, ◌++◌, length, get_or, Some, Ok, Err, Result, IfOk, IfErr, Vec}
use Rattle.std.specs.declared.alloc.Global.{Global}
use Rattle.fab_base.specs.Ending.{Said, Read, end_by, RoseIn, Uses}
use Rattle.fab_base.specs.Seen.{Seen, SameFiles, Nothing, Only, Rose, bytes_of}
use Rattle.fab_base.specs.declared.values.Failed.{Failed}
use Rattle.fab_config.specs.Settings.{Settings}
use Rattle.pcap_file.specs.Capture.{HEAD}
use Rattle.pcap_file.specs.declared.Budget.{Budget}
use Rattle.fab_policy.specs.Journal.{Journal}
use Rattle.window_records.specs.Looks.{Opened}
use Rattle.fab_policy.specs.Standing.{Contents, Stands}
use Rattle.fab_policy.specs.State.{tables_of}
use Rattle.pcap_file.specs.declared.fault.CapWhy.{CapWhy}
use Rattle.pcap_file.specs.declared.fault.LimitKind.TheVariants as kinds
use Rattle.pcap_file.specs.declared.fault.GatherFault.TheVariants as gather
use Rattle.fab_base.specs.declared.whole.WholeError.{WholeError}
use Rattle.fab_base.specs.declared.whole.WholeError.TheVariants as wholes
use Rattle.fab_replay.specs.Check.{Matter, NamesRun, AreSent, IsLegal, IsFirstLine, IsFirstOutput, IsFirstStop}
use Rattle.fab_replay.specs.Showing.{shown, shown_by}
use Rattle.fab_replay.specs.declared.fault.CheckFault.{CheckFault}
use Rattle.fab_replay.specs.declared.fault.CheckFault.TheVariants as checks
use Rattle.fabric_tool.specs.Command.{RunNames, Command, Replay, Show}
use Rattle.fabric_tool.specs.Ending.{Ending, Never, Untouched, Unread, EndsBy}
use Rattle.run_files.specs.Names.{Among}
use Rattle.fabric_tool.specs.declared.command.Width.{Width}
use Rattle.fabric_tool.specs.declared.command.Width.TheVariants as widths
use Rattle.fabric_tool.specs.Inputs.{HasConfig, HasFault, HasInputs, HasBadHead, HaveNoRoom, IsFirstUnread, MOST_BYTES, MOST_FRAMES}
use Rattle.fabric_tool.specs.declared.outcome.Outcome.{Outcome}
use Rattle.fabric_tool.specs.declared.outcome.Outcome.TheVariants as ends
use Rattle.fab_base.specs.Sunk.{Sunk}
use Rattle.fabric_tool.specs.Meaning.{Meaning}
use Rattle.fabric_tool.specs.Outcome.{legal_text, outcome_end}

-- ---- what is checked

-- What the limits leave for the captures behind their heads: the bytes of the journal and of all captures are within one.
abbrev pub budget_of : List ℕ → ℕ → Budget
budget_of journal ports = record { bytes = MOST_BYTES - length journal - HEAD * ports; frames = MOST_FRAMES }

-- the bytes of an output, by its port counted from 0
abbrev pub output_in : RunNames → Seen → ℕ → List ℕ
output_in k d q = bytes_of (d.file (get_or k.outs q []))

abbrev pub matter_of : RunNames → Seen → List Opened → List ℕ → Matter
matter_of k d opened journal = record { ins = opened; journal = journal; outputs = length k.outs; found = output_in k d }

-- The configuration has a value, each capture a head, and the journal and the heads are within the limit on bytes.
pub record HasMatter (k : RunNames) (d : Seen) (c : Settings) (opened : List Opened) (journal : List ℕ) : Type 0 where
  pub inputs : HasInputs k d c opened
  pub lines : d.file k.journal ≡ Some journal
  pub within : length journal + HEAD * length k.ins ≤ MOST_BYTES

-- the files of a command are such, and this holds of them
pub record Finds (k : RunNames) (d : Seen) (P : Settings → Budget → Matter → Type 0) : Type 0 where
  pub settings : Settings
  pub opened : List Opened
  pub journal : List ℕ
  pub matter : HasMatter k d settings opened journal
  pub says : P settings (budget_of journal (length k.ins)) (matter_of k d opened journal)

-- The journal names a run over whole captures, with so many entries, and each output is the capture of what it sends.
abbrev pub IsLegalJournal : ℕ → Settings → Budget → Matter → Type 0
IsLegalJournal entries c budget m = IsLegal c budget m entries

-- The journal and the heads of the captures, which are read in port order, pass the limit on bytes at a head before which no
-- capture is without one.
pub record IsLongJournal (k : RunNames) (d : Seen) : Type 0 where
  pub settings : Settings
  pub config : HasConfig d k.config settings
  pub journal : List ℕ
  pub lines : d.file k.journal ≡ Some journal
  pub heads : HaveNoRoom k.ins d (MOST_BYTES - length journal)

-- That port's capture is the first without a head, and the journal, with 24 bytes for each head up to its own, is within the limit
-- on bytes.
pub record IsHeadRefused (k : RunNames) (d : Seen) (port : ℕ) (reason : CapWhy) : Type 0 where
  pub head : HasBadHead k d port reason
  pub journal : List ℕ
  pub lines : d.file k.journal ≡ Some journal
  pub within : length journal + HEAD * port ≤ MOST_BYTES

-- The journal names a run over whole captures, and this is what is shown of it.
pub record IsShownJournal (text : List ℕ) (c : Settings) (budget : Budget) (m : Matter) : Type 0 where
  pub entry_list : Journal
  pub names : NamesRun c budget m entry_list
  pub told : text ≡ shown c entry_list

-- ---- how `replay` and `show` end

-- What the files say where one of them ends so: the first fault in the order configuration, bytes of the journal, port by port the
-- bytes of the head and the head, then window by window a stop of the captures and the lines, and then the outputs.
abbrev pub CheckSays : RunNames → Seen → Outcome → Type 0
CheckSays k d (ends.Legal entries) = Finds k d (IsLegalJournal entries)
CheckSays k d (ends.Shown text) = Finds k d (IsShownJournal text)
CheckSays k d (ends.WrongLine line why) = Finds k d (λ c budget m. IsFirstLine c budget m line why)
CheckSays k d (ends.WrongOutput port at) = Finds k d (λ c budget m. IsFirstOutput c budget m port at)
CheckSays k d (ends.Config fault) = HasFault d k.config fault
CheckSays k d (ends.Capture port at why) = ((at ≡ 0) × IsHeadRefused k d port why) ⊎ Finds k d (λ c budget m. IsFirstStop c budget m (gather.Capture port at why))
CheckSays k d (ends.Limit kind) = ((kind ≡ kinds.Bytes) × IsLongJournal k d) ⊎ Finds k d (λ c budget m. IsFirstStop c budget m (gather.Limit kind))
CheckSays k d _ = ⊥

-- The configuration and the journal were read, and of the captures one couldn't be: those before it have heads, which are within the
-- limit on bytes with the journal.
pub record IsCaptureUnread (k : RunNames) (old new : Seen) : Type 0 where
  pub settings : Settings
  pub config : HasConfig old k.config settings
  pub journal : List ℕ
  pub lines : old.file k.journal ≡ Some journal
  pub room : length journal ≤ MOST_BYTES
  pub first : IsFirstUnread k.ins old new (MOST_BYTES - length journal)

-- Which input couldn't be read, where what is read before it has its form: the configuration, the journal, a capture behind those of
-- lower ports, or, behind the heads of all captures, a capture or an output.
abbrev pub IsUnread : RunNames → Seen → Seen → Type 0
IsUnread k old new =
    Rose (old.read_faults k.config) (new.read_faults k.config)
    ⊎ (((c : Settings) × HasConfig old k.config c × Rose (old.read_faults k.journal) (new.read_faults k.journal))
    ⊎ (IsCaptureUnread k old new
    ⊎ (RoseIn (Among (k.ins ++ k.outs)) old.read_faults new.read_faults × Finds k old (λ c budget m. Unit {0}))))

-- How one of them ends but with status 0. No output is opened, and want of memory hides no fault.
abbrev pub check_ending : RunNames → Seen → Seen → Outcome → Ending
check_ending k old new (ends.WrongLine line why) = Untouched (CheckSays k old (ends.WrongLine line why))
check_ending k old new (ends.WrongOutput port at) = Untouched (CheckSays k old (ends.WrongOutput port at))
check_ending k old new (ends.Config fault) = Untouched (CheckSays k old (ends.Config fault))
check_ending k old new (ends.Capture port at why) = Untouched (CheckSays k old (ends.Capture port at why))
check_ending k old new (ends.Limit kind) = Untouched (CheckSays k old (ends.Limit kind))
check_ending k old new ends.ReadFault = Unread (IsUnread k old new)
check_ending k old new ends.Memory = Untouched (Unit {0})
check_ending k old new _ = Never

-- how `replay` ends
abbrev pub replay_ending : RunNames → Seen → Seen → Outcome → Ending
replay_ending k old new (ends.Legal entries) = Untouched (CheckSays k old (ends.Legal entries))
replay_ending k old new o = check_ending k old new o

-- how `show` ends, which has no outputs
abbrev pub show_ending : RunNames → Seen → Seen → Outcome → Ending
show_ending k old new (ends.Shown text) = Untouched (CheckSays k old (ends.Shown text))
show_ending k old new (ends.WrongOutput port at) = Untouched ⊥
show_ending k old new o = check_ending k old new o

-- ---- by status

-- Status 0 of `replay`: no file has changed, the journal names a run whose captures the outputs are, and the line with the
-- number of its entries was printed.
pub record ReplayEnded (k : RunNames) (old new : Seen) (before after : Sunk) : Type 0 where
  pub entries : ℕ
  pub files : SameFiles old new
  pub legal : CheckSays k old (ends.Legal entries)
  pub printed : IsTrue before.told → after.written ≡ before.written ++ legal_text entries

-- Status 0 of `show`: no file has changed, the journal names a run over the captures, and what was printed is its entries, its
-- clock and its live N_Ports.
pub record ShowEnded (k : RunNames) (old new : Seen) (before after : Sunk) : Type 0 where
  pub text : List ℕ
  pub files : SameFiles old new
  pub shown : CheckSays k old (ends.Shown text)
  pub printed : IsTrue before.told → after.written ≡ before.written ++ text

-- ---- where nothing fails

-- how `replay` ends by its inputs: the journal and the outputs are those of a run, or there is a first fault
abbrev pub ReplaySays : RunNames → Seen → Outcome → Type 0
ReplaySays k d (ends.Shown text) = ⊥
ReplaySays k d o = CheckSays k d o

-- the same of `show`, which has no outputs
abbrev pub ShowSays : RunNames → Seen → Outcome → Type 0
ShowSays k d (ends.Legal entries) = ⊥
ShowSays k d (ends.WrongOutput port at) = ⊥
ShowSays k d o = CheckSays k d o

-- what each of them reads, by how many names a port has: `replay` its outputs too
abbrev pub reads_of : Width → RunNames → List (List ℕ)
reads_of widths.One k = k.config ∷ k.journal ∷ k.ins
reads_of widths.Two k = k.config ∷ k.journal ∷ k.ins ++ k.outs

abbrev pub replay_meaning : RunNames → Meaning
replay_meaning k = record {
  reads = reads_of widths.Two k;
  writes = [];
  end = replay_ending k;
  Done = λ old new before after. IsTrue old.told → ReplayEnded k old new before after;
  Front = SameFiles;
  Forms = λ d. IsTrue d.told × (entries : ℕ) × CheckSays k d (ends.Legal entries);
  Says = ReplaySays k;
}

abbrev pub show_meaning : RunNames → Meaning
show_meaning k = record {
  reads = reads_of widths.One k;
  writes = [];
  end = show_ending k;
  Done = λ old new before after. IsTrue old.told → ShowEnded k old new before after;
  Front = SameFiles;
  Forms = λ d. IsTrue d.told × (text : List ℕ) × CheckSays k d (ends.Shown text);
  Says = ShowSays k;
}

-- ---- words of private contracts

-- what a fault of a check ends the command with
abbrev pub refused_by : CheckFault → Outcome
refused_by (checks.Line line why) = ends.WrongLine line why
refused_by (checks.Output port at) = ends.WrongOutput port at
refused_by (checks.Capture port at why) = ends.Capture port at why
refused_by (checks.Limit kind) = ends.Limit kind
refused_by checks.Read = ends.ReadFault
refused_by checks.Memory = ends.Memory

-- what an error of reading a journal whole ends the command with
abbrev pub unread_by : WholeError → Outcome
unread_by wholes.Bytes = ends.Limit kinds.Bytes
unread_by (wholes.Read failed) = ends.ReadFault
unread_by wholes.Memory = ends.Memory

-- what an outcome says of reading a journal
abbrev pub JournalEnds : List ℕ → ℕ → Seen → Outcome → Type 0
JournalEnds name limit old (ends.Limit kind) = (kind ≡ kinds.Bytes) × (IsTrue old.told → (l : List ℕ) × (old.file name ≡ Some l) × (limit < length l))
JournalEnds name limit old ends.ReadFault = Unit {0}
JournalEnds name limit old ends.Memory = Unit {0}
JournalEnds name limit old _ = ⊥

-- a journal under a name, within a limit of bytes
pub record JournalRead (name : List ℕ) (limit : ℕ) (old new : Seen) (result : Result (Vec ℕ Global) Outcome) : Type 0 where
  pub uses : Uses (Only name) Nothing (end_by outcome_end result) old new
  pub ok : IsTrue old.told → IfOk result (λ v. old.file name ≡ Some v.items)
  pub within : IfOk result (λ v. length v.items ≤ limit)
  pub ended : IfErr result (JournalEnds name limit old)

-- slots that are open inputs of these names, of which nothing is given yet
abbrev pub AreOpenInputs : Seen → Seen → List (List ℕ) → List ℕ → Type 0
AreOpenInputs old d [] [] = Unit {0}
AreOpenInputs old d [] (s ∷ slots) = ⊥
AreOpenInputs old d (name ∷ names) [] = ⊥
AreOpenInputs old d (name ∷ names) (s ∷ slots) = (IsTrue (d.input s) × (d.name s ≡ name) × (IsTrue old.told → old.file name ≡ Some (d.left s))) × AreOpenInputs old d names slots

-- the outputs of `replay`, opened to be read
pub record OutputsRead {T : Type 0} (items : T → List ℕ) (k : RunNames) (old new : Seen) (result : Result T Failed) : Type 0 where
  pub uses : Uses (Among k.outs) Nothing (end_by (λ e. Read) result) old new
  pub slots : IfOk result (λ o. AreOpenInputs old new k.outs (items o))

-- what an outcome says of reading the configuration and the journal
abbrev pub GivenEnds : RunNames → Seen → Seen → Outcome → Type 0
GivenEnds k old new (ends.Config fault) = IsTrue old.told → HasFault old k.config fault
GivenEnds k old new (ends.Limit kind) = (kind ≡ kinds.Bytes) × (IsTrue old.told → (c : Settings) × HasConfig old k.config c × (l : List ℕ) × (old.file k.journal ≡ Some l) × (MOST_BYTES < length l))
GivenEnds k old new ends.ReadFault =
    Rose (old.read_faults k.config) (new.read_faults k.config)
    ⊎ (Rose (old.read_faults k.journal) (new.read_faults k.journal) × (IsTrue old.told → (c : Settings) × HasConfig old k.config c))
GivenEnds k old new ends.Memory = Unit {0}
GivenEnds k old new _ = ⊥

-- what stands when both were read
pub record HasGiven (k : RunNames) (c : Settings) (journal : List ℕ) (old now : Seen) : Type 0 where
  pub uses : Uses (Among (k.config ∷ k.journal ∷ [])) Nothing Said old now
  pub config : IsTrue old.told → HasConfig old k.config c
  pub lines : IsTrue old.told → old.file k.journal ≡ Some journal

pub record GivenRead (k : RunNames) (old new : Seen) (result : Result (Settings × Vec ℕ Global) Outcome) : Type 0 where
  pub uses : Uses (Among (k.config ∷ k.journal ∷ [])) Nothing (end_by outcome_end result) old new
  pub given : IfOk result (λ g. HasGiven k g.0 g.1.items old new)
  pub within : IfOk result (λ g. length g.1.items ≤ MOST_BYTES)
  pub ended : IfErr result (GivenEnds k old new)

-- the command by how many names a port has
abbrev pub command_of : Width → RunNames → Command
command_of widths.One k = Show k
command_of widths.Two k = Replay k

-- The journal and the outputs are those of a run, with so many entries, and a fabric stands for it.
pub record IsStanding (F : Contents) (entries : ℕ) (c : Settings) (budget : Budget) (m : Matter) : Type 0 where
  pub entry_list : Journal
  pub names : NamesRun c budget m entry_list
  pub outputs : AreSent c m entry_list
  pub count : entries ≡ length entry_list
  pub stands : Stands F entry_list
  pub settings : F.settings ≡ c

-- how a check ends
abbrev pub IsChecked : Width → RunNames → Seen → Seen → Result (Contents × ℕ) Outcome → Type 0
IsChecked width k old new (Ok (F, entries)) = Uses (Among (reads_of width k)) Nothing Said old new × (IsTrue old.told → Finds k old (IsStanding F entries))
IsChecked width k old new (Err outcome) = EndsBy (reads_of width k) [] old new (check_ending k old new outcome)

-- what is told of a fabric that stands for a journal, or want of memory
abbrev pub Tells : Contents → ℕ → Outcome → Type 0
Tells F entries (ends.Shown text) = (J : Journal) → Stands F J → text ≡ shown_by entries (tables_of F.settings J)
Tells F entries ends.Memory = Unit {0}
Tells F entries _ = ⊥
