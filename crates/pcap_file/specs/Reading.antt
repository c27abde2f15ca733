-- What a contract sees of a reader, and what its calls answer over a depot.
use Rattle.std.specs.Prelude.{◌≡◌, ℕ, ◌+◌, ◌-◌, ◌^◌, ◌≤◌, ◌<◌, ◌↔◌, min, IsTrue, nat_lt, ◌==◌, if◌then◌else◌, List, [], ◌++◌, length, take, drop, Option, Some, None, unwrap_or, Result, Ok, Err, IfOk, OnOk, OnErr, IsErrOf, MatchResult, MatchOption}
use Rattle.fab_base.specs.Ending.{end_by, SparesReads}
use Rattle.fab_base.specs.Seen.{Seen, Reads, Rose, SameReadFaults}
use Rattle.fab_base.specs.declared.values.Failed.{Failed}
use Rattle.fab_base.specs.declared.values.Caught.{Caught}
use Rattle.pcap_file.specs.declared.Budget.{Budget}
use Rattle.pcap_file.specs.declared.CaptureHead.{CaptureHead}
use Rattle.pcap_file.specs.declared.CapError.{CapError}
use Rattle.pcap_file.specs.declared.CapError.TheVariants as errors
use Rattle.pcap_file.specs.declared.CapOpen.{CapOpen}
use Rattle.pcap_file.specs.declared.CapOpen.TheVariants as opens
use Rattle.pcap_file.specs.declared.Record.{Record}
use Rattle.pcap_file.specs.declared.reader.Place.{Place}
use Rattle.pcap_file.specs.Faults.{cap_end, open_end}
use Rattle.pcap_file.specs.Capture.{HEAD, RECORD_HEAD, MOST_STORED, Next, Found, End, CutHead, TooLong, CutBytes, next, head_decoded}

-- A reader: the head of its capture, the place of the next record in the file, the greatest moment so far or 0, the error
-- that it keeps, and the bytes that it has fetched and not given.
pub record Reading : Type 0 where
  pub head : CaptureHead
  pub at : ℕ
  pub greatest : ℕ
  pub kept : Option CapError
  pub held : List ℕ

-- what a reader of this slot has still to read
abbrev pub to_come : Reading → Seen → ℕ → List ℕ
to_come r d s = r.held ++ d.left s

-- ---- why a record isn't taken

-- The bytes end inside the record, its stored length passes what a record stores, or a limit is passed.
pub data Why : Type 0 where
  Cut : Why
  Long : (len : ℕ) → Why
  NoBytes : Why
  NoFrames : Why

-- why a record of a stored length can't be taken, with what is left of the limits
abbrev pub limit_of : ℕ → ℕ → ℕ → Option Why
limit_of bytes frames len =
    if nat_lt bytes (RECORD_HEAD + len) then Some NoBytes else if frames == 0 then Some NoFrames else None

-- why what stands at a place can't be taken; the limits come before stored bytes that are missing
abbrev pub failure : ℕ → ℕ → Next → Option Why
failure bytes frames (Found moment caught rest) = limit_of bytes frames (length caught.bytes)
failure bytes frames End = None
failure bytes frames CutHead = Some Cut
failure bytes frames (TooLong len) = Some (Long len)
failure bytes frames (CutBytes len) = Some (unwrap_or (limit_of bytes frames len) Cut)

-- the error that tells it of a record at a place of the file
abbrev pub error_of : Why → ℕ → CapError
error_of Cut at = errors.Cut at
error_of (Long len) at = errors.TooLong at len
error_of NoBytes at = errors.Bytes
error_of NoFrames at = errors.Frames

-- ---- one step of a reader

-- How a reader goes on where neither the depot fails nor memory is refused.
pub data Step : Type 0 where
  Gives : (moment : ℕ) (caught : Caught) (rest : List ℕ) → Step
  Ends : Step
  Stops : (error : CapError) → Step

-- the step at a place of the file from what stands there, which fails or doesn't
abbrev pub step_by : Option Why → ℕ → Next → Step
step_by (Some why) at x = Stops (error_of why at)
step_by None at (Found moment caught rest) = Gives moment caught rest
step_by None at _ = Ends

-- how a reader goes on there with what is left of the limits
abbrev pub step_of : Budget → ℕ → Next → Step
step_of budget at x = step_by (failure budget.bytes budget.frames x) at x

-- Memory is asked for behind these tests alone: the head of a record stands there, and it is within the limits.
abbrev pub AsksMemory : Step → Type 0
AsksMemory (Gives moment caught rest) = Unit {0}
AsksMemory (Stops (errors.Cut at)) = Unit {0}
AsksMemory _ = ⊥

-- what an answer says of that step, where this is still to come afterwards; a depot's fault says nothing
abbrev pub Says : Step → List ℕ → Result (Option Record) CapError → Type 0
Says step rest (Ok (Some r)) = step ≡ Gives r.moment r.caught rest
Says step rest (Ok None) = (step ≡ Ends) × (rest ≡ [])
Says step rest (Err (errors.Cut at)) = step ≡ Stops (errors.Cut at)
Says step rest (Err (errors.TooLong at len)) = step ≡ Stops (errors.TooLong at len)
Says step rest (Err errors.Bytes) = step ≡ Stops errors.Bytes
Says step rest (Err errors.Frames) = step ≡ Stops errors.Frames
Says step rest (Err (errors.Read failed)) = Unit {0}
Says step rest (Err errors.Memory) = AsksMemory step

-- a place behind so many bytes more; places stay at the last number of 64 bits
abbrev pub place_after : ℕ → ℕ → ℕ
place_after at count = min (at + count) (2 ^ 64 - 1)

-- What holds of a record that a reader gives, told or not: limits of its parts, and what it takes from the budget.
pub record TakesRecord (before after : Reading) (had left : Budget) (r : Record) : Type 0 where
  pub fresh : before.kept ≡ None
  pub moved : after ≡ record before { at = place_after before.at (RECORD_HEAD + length r.caught.bytes); greatest = r.moment; held = after.held }
  pub onward : before.greatest ≤ r.moment
  pub range : r.moment < 2 ^ 43
  pub stored : length r.caught.bytes ≤ MOST_STORED
  pub bytes : left.bytes + (RECORD_HEAD + length r.caught.bytes) ≡ had.bytes
  pub frames : left.frames + 1 ≡ had.frames

-- the end changes nothing but what is held
pub record Rests (before after : Reading) (had left : Budget) : Type 0 where
  pub fresh : before.kept ≡ None
  pub same : after ≡ record before { held = after.held }
  pub budget : left ≡ had

-- an error is kept
pub record KeepsError (before after : Reading) (had left : Budget) (e : CapError) : Type 0 where
  pub kept : after ≡ record before { kept = Some e; held = after.held }
  pub budget : left ≡ had

-- a fault of reading this slot's name is counted
abbrev pub ReadsRose : ℕ → Seen → Seen → Type 0
ReadsRose slot old new = Rose (old.read_faults (old.name slot)) (new.read_faults (old.name slot))

-- Where a reading stands: the depot, the reader, and what is left of the limits.
pub record ReaderStand : Type 0 where
  pub depot : Seen
  pub reader : Reading
  pub budget : Budget

-- such a stand of its parts
abbrev pub reader_stand : Seen → Reading → Budget → ReaderStand
reader_stand depot reader budget = record { depot = depot; reader = reader; budget = budget }

-- the step of a reader that stands there, whose capture is in this slot
abbrev pub step_at : ℕ → ReaderStand → Step
step_at slot s = step_of s.budget s.reader.at (next s.reader.head s.reader.greatest (to_come s.reader s.depot slot))

-- What a reader's next record is. Where the depot tells, and no error is kept, the answer is the step, except that the
-- depot may fail, which its count shows, and memory may be refused. A kept error is answered again and nothing is fetched.
pub record NextReads (slot : ℕ) (before after : ReaderStand) (result : Result (Option Record) CapError) : Type 0 where
  pub reads : Reads (before.depot.name slot) before.depot after.depot
  pub says : IsTrue before.depot.told → before.reader.kept ≡ None → Says (step_at slot before) (to_come after.reader after.depot slot) result
  pub taken : IfOk result (λ o. MatchOption o (Rests before.reader after.reader before.budget after.budget) (λ r. TakesRecord before.reader after.reader before.budget after.budget r))
  pub kept : MatchResult result (λ o. Unit {0}) (λ e. KeepsError before.reader after.reader before.budget after.budget e)
  pub cause : before.reader.kept ≡ None → (f : Failed) → result ≡ Err (errors.Read f) → ReadsRose slot before.depot after.depot
  pub again : (e : CapError) → before.reader.kept ≡ Some e → (result ≡ Err e) × (after.depot ≡ before.depot) × (after.reader ≡ before.reader)
  pub counts : SparesReads (end_by cap_end result) before.depot after.depot

-- what an error of opening says
abbrev pub Refuses : ℕ → Seen → Seen → CapOpen → Type 0
Refuses slot old new (opens.Head fault) = IsTrue old.told → head_decoded (old.left slot) ≡ Err fault
Refuses slot old new (opens.Read failed) = ReadsRose slot old new
Refuses slot old new opens.Bytes = new ≡ old

-- What opening a capture does. Want of 24 bytes in the budget is told first.
pub record OpensReader (slot : ℕ) (old new : Seen) (had left : Budget) (result : Result Reading CapOpen) : Type 0 where
  pub reads : Reads (old.name slot) old new
  pub begins : IfOk result (λ r. (r.at ≡ HEAD) × (r.greatest ≡ 0) × (r.kept ≡ None))
  pub taken : IfOk result (λ r. (left.bytes + HEAD ≡ had.bytes) × (left.frames ≡ had.frames))
  pub head : IsTrue old.told → IfOk result (λ r. (head_decoded (old.left slot) ≡ Ok r.head) × (to_come r new slot ≡ drop HEAD (old.left slot)))
  pub refused : MatchResult result (λ r. Unit {0}) (λ e. Refuses slot old new e)
  pub untouched : OnErr result (left ≡ had)
  pub bytes : IsErrOf result opens.Bytes ↔ (had.bytes < HEAD)
  pub counts : SparesReads (end_by open_end result) old new

-- ---- inside the crate

-- What a buffer is filled from: the bytes that are held, and then the depot.
pub record Supply : Type 0 where
  pub held : List ℕ
  pub depot : Seen

-- such a supply of its parts
abbrev pub supply : List ℕ → Seen → Supply
supply held depot = record { held = held; depot = depot }

-- the bytes that a slot has still to give
abbrev pub coming : ℕ → Supply → List ℕ
coming slot s = s.held ++ s.depot.left slot

-- Filling a buffer from what is held and then from a slot. It fetches only while it holds fewer bytes than are wanted: the depot is the
-- same where enough is held (`still`), and where a fetch failed fewer were held and fetched than are wanted (`waits`). Each fetch may fail,
-- and none fails unheard (`counts`), so none is made behind the last wanted byte. Where one failed the buffer begins with what was
-- taken, and what is to come stands behind it (`front`).
pub record Pulls (slot : ℕ) (buffer : List ℕ) (before after : Supply) (result : Result ℕ Failed) : Type 0 where
  pub reads : Reads (before.depot.name slot) before.depot after.depot
  pub bound : IfOk result (λ n. n ≤ length buffer)
  pub taken : IsTrue before.depot.told → IfOk result (λ n. take n buffer ++ coming slot after ≡ coming slot before)
  pub ended : IsTrue before.depot.told → IfOk result (λ n. n < length buffer → coming slot after ≡ [])
  pub still : length buffer ≤ length before.held → after.depot ≡ before.depot
  pub waits : IsTrue before.depot.told → OnErr result (length (coming slot before) < length buffer + length (after.depot.left slot))
  pub front : IsTrue before.depot.told → OnErr result ((n : ℕ) × (n ≤ length buffer) × (take n buffer ++ coming slot after ≡ coming slot before))
  pub cause : OnErr result (ReadsRose slot before.depot after.depot)
  pub counts : OnOk result (SameReadFaults before.depot after.depot)

-- So many bytes from what is held and then from a slot, put into an empty buffer: fewer only at the end. However it ends, the buffer
-- has what was taken, and what is to come stands behind it.
pub record Collects {T : Type 0} (slot count : ℕ) (buffer : List ℕ) (before after : Supply) (result : Result T Failed) : Type 0 where
  pub reads : Reads (before.depot.name slot) before.depot after.depot
  pub bound : length buffer ≤ count
  pub taken : IsTrue before.depot.told → buffer ++ coming slot after ≡ coming slot before
  pub ended : IsTrue before.depot.told → OnOk result (length buffer < count → coming slot after ≡ [])
  pub cause : OnErr result (ReadsRose slot before.depot after.depot)
  pub counts : OnOk result (SameReadFaults before.depot after.depot)

-- One fetch where nothing is held; nothing is held then only where nothing is left, or where it failed.
pub record Refills {T : Type 0} (slot : ℕ) (before after : Supply) (result : Result T Failed) : Type 0 where
  pub reads : Reads (before.depot.name slot) before.depot after.depot
  pub taken : IsTrue before.depot.told → OnOk result (coming slot after ≡ coming slot before)
  pub ended : IsTrue before.depot.told → OnOk result (after.held ≡ [] → after.depot.left slot ≡ [])
  pub still : 0 < length before.held → after ≡ before
  pub needed : OnErr result (before.held ≡ [])
  pub empty : OnErr result (after.held ≡ [])
  pub nothing : IsTrue before.depot.told → OnErr result (after.depot.left slot ≡ before.depot.left slot)
  pub cause : OnErr result (ReadsRose slot before.depot after.depot)
  pub counts : OnOk result (SameReadFaults before.depot after.depot)

-- limits of a record's parts
pub record FitsRecord (greatest : ℕ) (budget : Budget) (r : Record) : Type 0 where
  pub onward : greatest ≤ r.moment
  pub range : r.moment < 2 ^ 43
  pub stored : length r.caught.bytes ≤ MOST_STORED
  pub bytes : RECORD_HEAD + length r.caught.bytes ≤ budget.bytes
  pub frames : 1 ≤ budget.frames

-- one record from what is held and a slot, at a place of the capture
pub record RecordRead (slot : ℕ) (place : Place) (budget : Budget) (before after : Supply) (result : Result (Option Record) CapError) : Type 0 where
  pub reads : Reads (before.depot.name slot) before.depot after.depot
  pub says : IsTrue before.depot.told → Says (step_of budget place.at (next place.head place.greatest (coming slot before))) (coming slot after) result
  pub fits : IfOk result (λ o. MatchOption o (Unit {0}) (λ r. FitsRecord place.greatest budget r))
  pub cause : (f : Failed) → result ≡ Err (errors.Read f) → ReadsRose slot before.depot after.depot
  pub counts : SparesReads (end_by cap_end result) before.depot after.depot
