-- The records of a capture, read one after another, and what follows from how the reading ends.
use Rattle.std.specs.Prelude.{◌≡◌, ◌≢◌, ℕ, ◌+◌, ◌*◌, ◌^◌, ◌≤◌, ◌<◌, ◌↔◌, max, true, false, IsTrue, List, [], ◌∷◌, ◌++◌, length, drop, Option, Some, None, Result, Ok, Err, MatchResult}
use Rattle.fab_base.specs.Seen.{Seen}
use Rattle.pcap_file.specs.declared.Budget.{Budget}
use Rattle.pcap_file.specs.declared.CaptureHead.{CaptureHead}
use Rattle.pcap_file.specs.declared.CapFault.{CapFault}
use Rattle.pcap_file.specs.declared.CapError.{CapError}
use Rattle.pcap_file.specs.declared.CapError.TheVariants as errors
use Rattle.pcap_file.specs.declared.Record.{Record}
use Rattle.pcap_file.specs.declared.CapOpen.{CapOpen}
use Rattle.pcap_file.specs.declared.CapOpen.TheVariants as opens
use Rattle.pcap_file.specs.Capture.{HEAD, RECORD_HEAD, MOST_STORED, head_bytes, record_bytes, Next, Found, End, CutHead, TooLong, CutBytes, next, head_decoded, records, IsCapture}
use Rattle.pcap_file.specs.Reading.{Reading, Why, failure, error_of, Step, Gives, Ends, Stops, step_of, to_come, place_after, ReaderStand, step_at, ReadsRose, NextReads, OpensReader}

-- these records stand one after another, and then the rest
abbrev pub Chain : CaptureHead → ℕ → List Record → List ℕ → List ℕ → Type 0
Chain h greatest [] l rest = l ≡ rest
Chain h greatest (r ∷ rs) l rest = (m : List ℕ) × (next h greatest l ≡ Found r.moment r.caught m) × Chain h r.moment rs m rest

-- the moment of the last of these records, or that before them
abbrev pub last_moment : ℕ → List Record → ℕ
last_moment before [] = before
last_moment before (r ∷ rs) = last_moment r.moment rs

-- the bytes that these records take
abbrev pub size_of : List Record → ℕ
size_of [] = 0
size_of (r ∷ rs) = RECORD_HEAD + length r.caught.bytes + size_of rs

-- no moment lies before the one in front of it
abbrev pub Ascends : ℕ → List Record → Type 0
Ascends before [] = Unit {0}
Ascends before (r ∷ rs) = (before ≤ r.moment) × Ascends r.moment rs

-- no record stands there, nor the end
abbrev pub IsFault : Next → Type 0
IsFault (Found moment caught rest) = ⊥
IsFault End = ⊥
IsFault CutHead = Unit {0}
IsFault (TooLong len) = Unit {0}
IsFault (CutBytes len) = Unit {0}

-- What stands for a loop that opened a reader of a slot, which had these bytes to give, and took these records.
pub record Taken (slot : ℕ) (file : List ℕ) (rs : List Record) (now : Seen) (r : Reading) : Type 0 where
  pub fresh : r.kept ≡ None
  pub greatest : r.greatest ≡ last_moment 0 rs
  pub ascends : Ascends 0 rs
  pub place : r.at ≡ place_after HEAD (size_of rs)
  pub chain : IsTrue now.told → (head_decoded file ≡ Ok r.head) × Chain r.head 0 rs (drop HEAD file) (to_come r now slot)

-- ---- laws

-- records that end where the bytes end make the capture
abbrev pub EndsAsCapture : Type 0
EndsAsCapture = (h : CaptureHead) (rs : List Record) (file rest : List ℕ) → head_decoded file ≡ Ok h → Chain h 0 rs (drop HEAD file) rest → next h (last_moment 0 rs) rest ≡ End → IsCapture h rs file

-- no capture has a fault behind its records
abbrev pub FaultIsNoCapture : Type 0
FaultIsNoCapture =
    (h : CaptureHead) (rs : List Record) (file rest : List ℕ) → head_decoded file ≡ Ok h → Chain h 0 rs (drop HEAD file) rest → IsFault (next h (last_moment 0 rs) rest)
    → (k : CaptureHead) (qs : List Record) → IsCapture k qs file → ⊥

-- nor in its head
abbrev pub BadHeadIsNoCapture : Type 0
BadHeadIsNoCapture = (file : List ℕ) (fault : CapFault) → head_decoded file ≡ Err fault → (k : CaptureHead) (qs : List Record) → IsCapture k qs file → ⊥

-- a capture says one head and one list of records
abbrev pub OneCapture : Type 0
OneCapture = (file : List ℕ) (h k : CaptureHead) (rs qs : List Record) → IsCapture h rs file → IsCapture k qs file → (h ≡ k) × (rs ≡ qs)

-- the moments of a capture don't go back
abbrev pub MomentsAscend : Type 0
MomentsAscend = (h : CaptureHead) (file : List ℕ) → Ascends 0 (records h file)

-- what a step says of what stands there: a record within the limits, the end, or why it fails, told with its place
abbrev pub TellsStep : Budget → ℕ → Next → Step → Type 0
TellsStep budget at x (Gives moment caught rest) = (x ≡ Found moment caught rest) × (failure budget.bytes budget.frames x ≡ None)
TellsStep budget at x Ends = x ≡ End
TellsStep budget at x (Stops e) = (why : Why) × (failure budget.bytes budget.frames x ≡ Some why) × (e ≡ error_of why at)

-- a step is exactly what stands there, with its failure
abbrev pub StepTells : Type 0
StepTells = (budget : Budget) (at : ℕ) (x : Next) (step : Step) → (step_of budget at x ≡ step) ↔ TellsStep budget at x step

-- an answer that shows a step, where this is to come afterwards
abbrev pub Shows : Step → List ℕ → Result (Option Record) CapError → Type 0
Shows (Gives moment caught rest) after result = (result ≡ Ok (Some (record { moment = moment; caught = caught }))) × (after ≡ rest)
Shows Ends after result = result ≡ Ok None
Shows (Stops e) after result = result ≡ Err e

-- Each step of the reader is answered, except where the depot's count rose or memory was refused.
abbrev pub StepIsAnswered : Type 0
StepIsAnswered =
    (slot : ℕ) (before after : ReaderStand) (result : Result (Option Record) CapError) → NextReads slot before after result → IsTrue before.depot.told → before.reader.kept ≡ None → ¬ ReadsRose slot before.depot after.depot → result ≢ Err errors.Memory
    → Shows (step_at slot before) (to_come after.reader after.depot slot) result

-- Each fault of a head is answered, except where the budget is too small or the depot's count rose; else the head is.
abbrev pub HeadIsAnswered : Type 0
HeadIsAnswered =
    (slot : ℕ) (old new : Seen) (had left : Budget) (result : Result Reading CapOpen) → OpensReader slot old new had left result → IsTrue old.told → HEAD ≤ had.bytes → ¬ ReadsRose slot old new
    → MatchResult result (λ r. head_decoded (old.left slot) ≡ Ok r.head) (λ e. (fault : CapFault) × (e ≡ opens.Head fault) × (head_decoded (old.left slot) ≡ Err fault))

-- what is written is read back
abbrev pub WrittenIsRead : Type 0
WrittenIsRead =
    ((rest : List ℕ) → head_decoded (head_bytes ++ rest) ≡ Ok (record { big = false; nano = false }))
    × ((greatest moment : ℕ) (bytes rest : List ℕ) → moment < 2 ^ 32 * 1000 → length bytes ≤ MOST_STORED
    → next (record { big = false; nano = false }) greatest (record_bytes moment bytes ++ rest) ≡ Found (max greatest moment) (record { bytes = bytes; whole = true }) rest)
