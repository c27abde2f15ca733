-- What stands between the windows of a run, and what its parts do. Of the public clauses only that of the laws cites it.
use Rattle.std.specs.Prelude.{◌≡◌, ℕ, ◌+◌, ◌<◌, ◌≤◌, ◌^◌, ◌⊎◌, IsTrue, IfSome, List, [], ◌++◌, length, map, Option, Some, unwrap_or, Result, Ok, Err, OnOk, IfErr}
use Rattle.fab_base.specs.Ending.{NoFaults, end_by, Either, Uses}
use Rattle.fab_base.specs.Seen.{Seen, Touches, Nothing}
use Rattle.fab_base.specs.declared.values.Failed.{Failed}
use Rattle.fab_config.specs.Settings.{Settings}
use Rattle.pcap_file.specs.declared.Budget.{Budget}
use Rattle.pcap_file.specs.declared.Record.{Record}
use Rattle.fab_policy.specs.Growing.{records_to, FollowedByParts, NothingIsRun}
use Rattle.window_records.specs.Keeping.{KeepsBefore, KeepsJust}
use Rattle.fab_policy.specs.Journal.{Journal, frame_count}
use Rattle.window_records.specs.Looks.{Opened}
use Rattle.fab_policy.specs.Outputs.{Sent}
use Rattle.fab_policy.specs.Standing.{Contents, drained}
use Rattle.fab_policy.specs.declared.event.Event.{Event}
use Rattle.fab_states.specs.Laws.{RecordsGrowFrom, TextGrowsFrom}
use Rattle.fab_states.specs.Runs.{none_of}
use Rattle.fab_sending.specs.Message.{sent_of}
use Rattle.fab_sending.specs.declared.message.Out.{Out}
use Rattle.forward_core.specs.Fabric.{AreRanged}
use Rattle.window_records.specs.declared.shelf.Input.{Input}
use Rattle.window_records.specs.declared.shelf.Shelf.{Shelf}
use Rattle.run_files.specs.Faults.{run_end, IsUnwritten}
use Rattle.run_files.specs.declared.fault.RunFault.{RunFault}
use Rattle.run_files.specs.declared.fault.RunFault.TheVariants as fault
use Rattle.window_records.specs.First.{Start, start_at, opened_in, IsNextWindow}
use Rattle.window_records.specs.Gather.{Gathers}
use Rattle.window_records.specs.Laws.{LooksAhead, NextIsAhead, NextIsFirst, NoneIsLeft, WindowMoves, ReadsOn, ReadStays, ReadIsBelow, ReadSplits, ReadIsAll}
use Rattle.fab_base.specs.Slots.{NameIn}
use Rattle.window_records.specs.Ports.{Walk, walk_at, slots_of}
use Rattle.window_records.specs.Reads.{batches_of}
use Rattle.window_records.specs.Walked.{Walked}
use Rattle.fab_windows.specs.declared.Done.{Done}
use Rattle.fab_windows.specs.Files.{Written, Writes, FileSlots, file_slots, file_bytes, Pending, HoldBut, HoldFronts}
use Rattle.fab_windows.specs.From.{Origin, RunsOn, WholesButOn, WholesOn}
use Rattle.fab_windows.specs.Run.{AreGiven}
use Rattle.fab_windows.specs.Steps.{Sofar, EntriesAreFew, WindowIsRun, WindowsAreEarly, FirstsAreTaken}
use Rattle.fab_windows.specs.Window.{Ticked, Handled, firsts_of}

-- ---- laws

-- The laws of the layers below on which a run rests.
pub record Laws : Type 0 where
  -- further entries
  pub followed_by : FollowedByParts
  pub text_grows : TextGrowsFrom
  pub records_grow : RecordsGrowFrom
  -- further records
  pub nothing_run : NothingIsRun
  pub windows_run : WindowIsRun
  pub few : EntriesAreFew
  pub early : WindowsAreEarly
  pub firsts_taken : FirstsAreTaken
  -- what a stop keeps
  pub keeps_before : KeepsBefore
  pub keeps_just : KeepsJust
  -- the looks to come
  pub looks_ahead : LooksAhead
  pub next_ahead : NextIsAhead
  pub next_first : NextIsFirst
  pub none_left : NoneIsLeft
  -- what was read
  pub moves : WindowMoves
  pub reads_on : ReadsOn
  pub read_stays : ReadStays
  pub read_below : ReadIsBelow
  pub read_splits : ReadSplits
  pub read_all : ReadIsAll

-- ---- between windows

-- What a run is handed: its configuration, where it goes on from, its limits, the captures, the depot as it is at the start, and where
-- it writes.
pub record Task : Type 0 where
  pub settings : Settings
  pub origin : Origin
  pub budget : Budget
  pub ins : List Input
  pub seen : Seen
  pub journal : ℕ
  pub outs : List ℕ

-- that of a run that starts so
abbrev pub task_of : Start → Origin → Settings → ℕ → List ℕ → Task
task_of s o c journal outs = record { settings = c; origin = o; budget = s.left; ins = s.ins; seen = s.seen; journal = journal; outs = outs }

-- where its captures stand at the start
abbrev pub start_of : Task → Start
start_of k = start_at k.seen k.ins k.budget

-- the captures of a task
abbrev pub captures_in : Task → List Opened
captures_in k = opened_in k.seen k.ins

-- the names that a run may touch
abbrev pub Touched : Task → List ℕ → Type 0
Touched k = Either (Written k.seen k.journal k.outs) (NameIn k.seen (slots_of k.ins))

-- What stands of a task before a window: which records were taken, how far the captures were read, and the entries that are a run over
-- these records.
pub record Reached (k : Task) (w first : ℕ) (F : Contents) (walk : Walk) : Type 0 where
  pub given : AreGiven k.seen k.ins k.journal k.outs
  pub ports : (1 ≤ length k.ins) × (length k.ins ≤ 64)
  pub outputs : length k.outs ≡ length k.ins
  pub limits : k.budget.bytes < 2 ^ 64
  pub touches : Touches (Written k.seen k.journal k.outs) (Touched k) k.seen walk.seen
  pub faults : NoFaults k.seen walk.seen
  pub taken : List (List Record)
  pub walked : Walked k.settings (start_of k) w first taken walk
  pub entry_list : Journal
  pub sofar : Sofar k.settings k.origin.state (none_of taken) (length k.ins) w taken entry_list F
  pub clock : IfSome F.state.tables.clock (λ t. t < w)

-- The files hold these entries but for what is still to be written, and its frames and entries are counted.
pub record Going (k : Task) (w first : ℕ) (F : Contents) (walk : Walk) (done : Done) (p : Pending) : Type 0 where
  pub reached : Reached k w first F walk
  pub files : IsTrue k.seen.told → WholesButOn p k.settings k.origin walk.seen k.journal k.outs reached.entry_list
  pub frames : done.frames ≡ frame_count reached.entry_list
  pub entries : done.entries ≡ length reached.entry_list

-- What stands of a task before the first window, of whichever new fabric.
pub record Begun (k : Task) (walk : Walk) : Type 0 where
  pub given : AreGiven k.seen k.ins k.journal k.outs
  pub ports : (1 ≤ length k.ins) × (length k.ins ≤ 64)
  pub outputs : length k.outs ≡ length k.ins
  pub limits : k.budget.bytes < 2 ^ 64
  pub touches : Touches (Written k.seen k.journal k.outs) (Touched k) k.seen walk.seen
  pub faults : NoFaults k.seen walk.seen
  pub walked : (o : Option ℕ) → IsNextWindow k.settings walk.shelves o → Walked k.settings (start_of k) 0 (unwrap_or o 0) (map (λ i. []) k.ins) walk
  pub whole : IsTrue k.seen.told → WholesOn k.settings k.origin walk.seen k.journal k.outs []

-- the run of a task ended with this fault
abbrev pub Ended : Task → Seen → RunFault → Type 0
Ended k d e = RunsOn k.settings k.origin (start_of k) d (file_slots k.journal k.outs) (Err e)

-- Nothing is still to be written, and the numbers are told; or some of it couldn't be.
abbrev pub Finishes : ℕ → List ℕ → Pending → Done → Seen → Seen → Result Done RunFault → Type 0
Finishes journal outs p done a b (Ok told) = Writes journal outs p.lines p.pieces a b (Ok tt) × (told ≡ done)
Finishes journal outs p done a b (Err e) = (f : Failed) × Writes journal outs p.lines p.pieces a b (Err f) × (e ≡ fault.Write)

-- ---- one window

-- A fabric made the ticks up to a window and handled its frames, and handed out what it made.
pub record Handles (w : ℕ) (shelves : List Shelf) (F E : Contents) (events : List Event) (outs : List Out) : Type 0 where
  pub ticked : Contents
  pub handled : Contents
  pub ticks : Ticked w F ticked
  pub frames : Handled (firsts_of shelves) (batches_of shelves) ticked handled
  pub after : E ≡ drained handled
  pub events_ : events ≡ handled.events
  pub outs_ : map (sent_of F.settings events) outs ≡ handled.outs
  pub ranged : AreRanged events

-- where writing stands: the store, and what is still to be written
pub record Paged : Type 0 where
  pub seen : Seen
  pub pages : Pending

abbrev pub paged_at : Seen → Pending → Paged
paged_at seen pages = record { seen = seen; pages = pages }

-- Adding lines and what is sent, from what was still to be written to what is then: files that held these bytes but for that hold
-- them with what is added, but for what is still to be written or wholly; or beginnings of it, written in order.
pub record Publishes (files : FileSlots) (lines : List ℕ) (sents : List Sent) (old new : Paged) (result : Result (Unit {0}) RunFault) : Type 0 where
  pub uses : Uses Nothing (Written old.seen files.journal files.outs) (end_by run_end result) old.seen new.seen
  pub whole : IsTrue old.seen.told →
      (w l l' : List ℕ) (v r r' : ℕ → List ℕ) → HoldBut old.pages old.seen files.journal files.outs (file_bytes w v) (file_bytes l r) → l' ≡ l ++ lines
      → ((q : ℕ) → q < length files.outs → r' q ≡ r q ++ records_to (q + 1) sents)
      → OnOk result
      (HoldBut new.pages new.seen files.journal files.outs (file_bytes w v) (file_bytes l' r')
      ⊎ HoldBut new.pages new.seen files.journal files.outs (file_bytes l' r') (file_bytes l' r'))
  pub front : IsTrue old.seen.told →
      (w l l' : List ℕ) (v r r' : ℕ → List ℕ) → HoldBut old.pages old.seen files.journal files.outs (file_bytes w v) (file_bytes l r) → l' ≡ l ++ lines
      → ((q : ℕ) → q < length files.outs → r' q ≡ r q ++ records_to (q + 1) sents) → HoldFronts new.seen files.journal files.outs (file_bytes w v) (file_bytes l' r')
  pub only : IfErr result (λ e. IsUnwritten (run_end e))

-- What stands once the next window was gathered from where a run had come.
pub record Gathered (k : Task) (w first : ℕ) (F : Contents) (new : Walk) (done : Done) (p : Pending) : Type 0 where
  pub seen : Seen
  pub ins : List Input
  pub shelves : List Shelf
  pub left : Budget
  pub going : Going k w first F (walk_at seen ins shelves left) done p
  pub next : IsNextWindow k.settings shelves (Some w)
  pub gathers : Gathers k.settings first w (walk_at seen ins shelves left) new (Ok tt)
