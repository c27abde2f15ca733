-- What is read of captures: all of each, port by port, with one budget of bytes and frames.
use Rattle.std.specs.Prelude.{◌≡◌, ℕ, zero, suc, ◌+◌, ◌-◌, ◌<◌, ◌≤◌, ◌^◌, IsTrue, nat_lt, if◌then◌else◌, List, [], ◌∷◌, ◌++◌, length, drop, Option, Some, None, Result, Ok, Err, IfOk, IfErr}
use Rattle.fab_base.specs.Ending.{end_by, Uses}
use Rattle.fab_base.specs.Seen.{Seen, Reads, Nothing, Only, SameReadFaults}
use Rattle.fab_base.specs.declared.values.Caught.{Caught}
use Rattle.pcap_file.specs.declared.Budget.{Budget}
use Rattle.pcap_file.specs.declared.CaptureHead.{CaptureHead}
use Rattle.pcap_file.specs.declared.CapFault.{CapFault}
use Rattle.pcap_file.specs.declared.Record.{Record}
use Rattle.pcap_file.specs.Capture.{HEAD, RECORD_HEAD, next, head_decoded}
use Rattle.pcap_file.specs.Reading.{ReaderStand, to_come, Step, Gives, Ends, Stops, step_of}
use Rattle.pcap_file.specs.Records.{Ascends, last_moment}
use Rattle.pcap_file.specs.declared.fault.LimitKind.TheVariants as limit
use Rattle.pcap_file.specs.declared.fault.GatherFault.{GatherFault}
use Rattle.pcap_file.specs.declared.fault.GatherFault.TheVariants as faults
use Rattle.pcap_file.specs.Faults.{why_of, fault_by, gather_end, IsStopped}

-- The records of a capture, and what is left of the budget.
pub record Taken : Type 0 where
  pub records : List Record
  pub left : Budget

-- what follows a reading, unless it stops
abbrev pub unless_stopped : {X Y : Type 0} → Result X GatherFault → (X → Result Y GatherFault) → Result Y GatherFault
unless_stopped (Err fault) more = Err fault
unless_stopped (Ok x) more = more x

-- a budget without what a record takes, and without what a head takes
abbrev pub without_record : Budget → Caught → Budget
without_record b caught = record { bytes = b.bytes - (RECORD_HEAD + length caught.bytes); frames = b.frames - 1 }

abbrev pub without_head : Budget → Budget
without_head b = record { bytes = b.bytes - HEAD; frames = b.frames }

abbrev pub with_record : Record → Taken → Result Taken GatherFault
with_record r t = Ok (record { records = r ∷ t.records; left = t.left })

-- what a step of a reader gives, by what is taken behind a record
abbrev pub by_step : (ℕ → Caught → List ℕ → Result Taken GatherFault) → ℕ → Budget → Step → Result Taken GatherFault
by_step more port budget (Gives moment caught rest) = unless_stopped (more moment caught rest) (with_record (record { moment = moment; caught = caught }))
by_step more port budget Ends = Ok (record { records = []; left = budget })
by_step more port budget (Stops e) = Err (fault_by e port)

-- the records from a place of a port's capture on, in at most n steps, up to the end of the file, or why the reading stops
abbrev pub records_by : ℕ → ℕ → CaptureHead → ℕ → ℕ → Budget → List ℕ → Result Taken GatherFault
records_by zero port h at greatest budget l = Ok (record { records = []; left = budget })
records_by (suc n) port h at greatest budget l =
    by_step (λ moment caught rest. records_by n port h (at + (RECORD_HEAD + length caught.bytes)) moment (without_record budget caught) rest) port budget (step_of budget at (next h greatest l))

abbrev pub body_by : ℕ → Budget → List ℕ → Result CaptureHead CapFault → Result Taken GatherFault
body_by port budget l (Err fault) = Err (faults.Capture port 0 (why_of fault))
body_by port budget l (Ok h) = records_by (suc (length l)) port h HEAD 0 (without_head budget) (drop HEAD l)

-- the capture of a port: the budget is tested before its head, and its head before its records
unfoldable pub capture_by : ℕ → Budget → List ℕ → Result Taken GatherFault
capture_by port budget l = if nat_lt budget.bytes HEAD then Err (faults.Limit limit.Bytes) else body_by port budget l (head_decoded l)

-- The captures of the ports from this one on, by what their files hold, each read whole before the next is opened; or the
-- first fault of them. A file that isn't there can't be read.
abbrev pub captures_by : ℕ → Budget → List (Option (List ℕ)) → Result (List (List Record)) GatherFault
captures_by port budget [] = Ok []
captures_by port budget (None ∷ files) = Err faults.Read
captures_by port budget (Some l ∷ files) = unless_stopped (capture_by port budget l) (λ t. unless_stopped (captures_by (port + 1) t.left files) (λ ins. Ok (t.records ∷ ins)))

-- ---- what reading does

-- what records have, whether a depot tells or not: their moments don't go back, and each can be written
abbrev pub AreFit : List Record → Type 0
AreFit [] = Unit {0}
AreFit (r ∷ records) = (r.moment < 2 ^ 43) × (length r.caught.bytes ≤ 65535) × AreFit records

-- What reading the capture of a port whole does: all of it is as `capture_by` says of the bytes that the slot had to give. However it
-- ends, no limit grows.
pub record ReadsCapture (port slot : ℕ) (a b : Seen) (had left : Budget) (result : Result (List Record) GatherFault) : Type 0 where
  pub uses : Uses (Only (a.name slot)) Nothing (end_by gather_end result) a b
  pub fit : IfOk result (λ records. AreFit records × Ascends 0 records)
  pub frames : IfOk result (λ records. left.frames + length records ≡ had.frames)
  pub limits : (left.bytes ≤ had.bytes) × (left.frames ≤ had.frames)
  pub taken : IsTrue a.told → IfOk result (λ records. capture_by port had (a.left slot) ≡ Ok (record { records = records; left = left }))
  pub stops : IsTrue a.told → IfErr result (λ e. IsStopped e → capture_by port had (a.left slot) ≡ Err e)

-- records in front of what a reading takes
abbrev pub in_front : List Record → Result Taken GatherFault → Result Taken GatherFault
in_front records (Err fault) = Err fault
in_front records (Ok t) = Ok (record { records = records ++ t.records; left = t.left })

-- what a reader's records are from where it stands
abbrev pub to_take : ℕ → ℕ → ℕ → ReaderStand → Result Taken GatherFault
to_take n port slot s = records_by n port s.reader.head s.reader.at s.reader.greatest s.budget (to_come s.reader s.depot slot)

-- What reading the records behind a head does, with more than enough steps.
pub record ReadsRecords (port slot : ℕ) (before after : ReaderStand) (result : Result (List Record) GatherFault) : Type 0 where
  pub uses : Uses (Only (before.depot.name slot)) Nothing (end_by gather_end result) before.depot after.depot
  pub fit : IfOk result (λ records. AreFit records × Ascends before.reader.greatest records)
  pub frames : IfOk result (λ records. after.budget.frames + length records ≡ before.budget.frames)
  pub limits : (after.budget.bytes ≤ before.budget.bytes) × (after.budget.frames ≤ before.budget.frames)
  pub taken : IsTrue before.depot.told → (n : ℕ) → length (to_come before.reader before.depot slot) < n → IfOk result (λ records. to_take n port slot before ≡ Ok (record { records = records; left = after.budget }))
  pub stops : IsTrue before.depot.told → (n : ℕ) → length (to_come before.reader before.depot slot) < n → IfErr result (λ e. IsStopped e → to_take n port slot before ≡ Err e)

-- What stands while they are read: these records were taken.
pub record SoFar (port slot : ℕ) (begin now : ReaderStand) (records : List Record) : Type 0 where
  pub reads : Reads (begin.depot.name slot) begin.depot now.depot
  pub input : IsTrue (now.depot.input slot)
  pub name : now.depot.name slot ≡ begin.depot.name slot
  pub fresh : now.reader.kept ≡ None
  pub place : now.reader.at + now.budget.bytes < 2 ^ 64
  pub fit : AreFit records
  pub frames : now.budget.frames + length records ≡ begin.budget.frames
  pub bytes : now.budget.bytes ≤ begin.budget.bytes
  pub ascends : Ascends begin.reader.greatest records
  pub last : now.reader.greatest ≡ last_moment begin.reader.greatest records
  pub taken : IsTrue begin.depot.told → (n : ℕ) → length (to_come begin.reader begin.depot slot) < n →
      (m : ℕ) × (length (to_come now.reader now.depot slot) < m) × (to_take n port slot begin ≡ in_front records (to_take m port slot now))
  pub counts : SameReadFaults begin.depot now.depot
