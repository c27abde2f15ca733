-- A file that is read packet by packet while it comes.
use Rattle.std.specs.Prelude.{◌≡◌, ℕ, zero, suc, ◌+◌, ◌-◌, ◌≤◌, IsTrue, List, [], ◌∷◌, ◌++◌, length, drop, Option, Some, None, is_some, Result, Err, IfOk, IfErr, MatchOption, MatchResult}
use Rattle.fab_base.specs.Ending.{end_by, IsSaid, SparesReads}
use Rattle.fab_base.specs.Seen.{Seen, Reads}
use Rattle.fab_base.specs.declared.values.Failed.{Failed}
use Rattle.pcap_file.specs.declared.Budget.{Budget}
use Rattle.pcap_file.specs.Reading.{ReadsRose}
use Rattle.pcapng_file.specs.declared.NgRecord.{NgRecord}
use Rattle.pcapng_file.specs.declared.fault.NgError.{NgError}
use Rattle.pcapng_file.specs.declared.fault.NgError.TheVariants as errors
use Rattle.pcapng_file.specs.declared.stream.Gone.{Gone}
use Rattle.pcapng_file.specs.declared.stream.Gone.TheVariants as gives
use Rattle.pcapng_file.specs.Block.{HEAD, NoneHolds}
use Rattle.pcapng_file.specs.File.{Section, before_all, front_tests, whole_tests, content_at, head_at, after, found, listed, Place, place, step_of, Lacks, ng_end, AreKept, ng_read, IsNg}

-- A stream: the bytes that were fetched and not given, the place of the next block, and the error that it keeps.
pub record Streaming : Type 0 where
  pub held : List ℕ
  pub here : Place
  pub kept : Option NgError

-- a stream that keeps no error, of its parts
abbrev pub streaming : List ℕ → ℕ → Section → Budget → Streaming
streaming held at section left = record { held = held; here = place at section left; kept = None }

-- where reading a stream stands: the stream and the depot
pub record StreamStand : Type 0 where
  pub stream : Streaming
  pub depot : Seen

abbrev pub stream_stand : Streaming → Seen → StreamStand
stream_stand stream depot = record { stream = stream; depot = depot }

-- the bytes that are still to be read of a slot
abbrev pub bytes_ahead : ℕ → StreamStand → List ℕ
bytes_ahead slot s = s.stream.held ++ s.depot.left slot

-- From a place on, where a section stands so, these bytes are n blocks at none of which a test holds, with these packets, and then
-- others, where a section stands so.
abbrev pub Parts : ℕ → Section → List NgRecord → List ℕ → Section → List ℕ → Type 0
Parts zero s v l t m = (v ≡ []) × (s ≡ t) × (l ≡ m)
Parts (suc n) s v l t m =
    NoneHolds (front_tests s l) × NoneHolds (whole_tests s l)
    × (w : List NgRecord) × (v ≡ found (content_at s l) ++ w) × Parts n (after s (content_at s l)) w (drop (head_at s l).size l) t m

-- some blocks
abbrev pub Goes : List NgRecord → Section → List ℕ → Section → List ℕ → Type 0
Goes v s l t m = (n : ℕ) × Parts n s v l t m

-- a file begins with these packets, and then these bytes come
abbrev pub BeginsWith : List NgRecord → List ℕ → Section → List ℕ → Type 0
BeginsWith v file t rest = Goes v before_all file t rest

-- ---- one block

-- the packet that a block gave, or none
abbrev pub given : Gone → List NgRecord
given (gives.Packet r) = r ∷ []
given gives.Other = []
given gives.End = []

-- What a block that was gone past says where the depot tells.
abbrev pub GoneTells : ℕ → StreamStand → StreamStand → Gone → Type 0
GoneTells slot old new gives.End = (bytes_ahead slot old ≡ []) × (bytes_ahead slot new ≡ []) × IsTrue (is_some old.stream.here.section.order)
GoneTells slot old new gone = Parts 1 old.stream.here.section (given gone) (bytes_ahead slot old) new.stream.here.section (bytes_ahead slot new)

-- the end moves nothing, and a block at least by its first bytes
abbrev pub GoneMoves : StreamStand → StreamStand → Gone → Type 0
GoneMoves old new gives.End = new.stream.here ≡ old.stream.here
GoneMoves old new gone = (old.stream.here.at + HEAD ≤ new.stream.here.at) × AreKept (given gone)

-- What an error of a block says: the stream stands before the block at which this is the first fault or limit, or of which bytes
-- lack where the depot failed.
abbrev pub BlockErrs : ℕ → StreamStand → StreamStand → NgError → Type 0
BlockErrs slot old new e = (IsSaid (ng_end e) → (new.stream.here ≡ old.stream.here) × (step_of old.stream.here.left old.stream.here.at old.stream.here.section (bytes_ahead slot old) ≡ Err e))
    × ((f : Failed) → e ≡ errors.Read f → (new.stream.here ≡ old.stream.here) × Lacks old.stream.here.section (bytes_ahead slot old) (new.depot.left slot))

-- One block of a stream.
pub record BlockGone (slot : ℕ) (old new : StreamStand) (result : Result Gone NgError) : Type 0 where
  pub reads : Reads (old.depot.name slot) old.depot new.depot
  pub tells : IsTrue old.depot.told → MatchResult result (GoneTells slot old new) (BlockErrs slot old new)
  pub moves : IfOk result (GoneMoves old new)
  pub place : IsTrue old.depot.told → IfOk result (λ o. new.stream.here.at + length (bytes_ahead slot new) ≡ old.stream.here.at + length (bytes_ahead slot old))
  pub bytes : new.stream.here.at + new.stream.here.left.bytes ≡ old.stream.here.at + old.stream.here.left.bytes
  pub frames : MatchResult result (λ o. new.stream.here.left.frames + length (given o) ≡ old.stream.here.left.frames) (λ e. new.stream.here.left.frames ≡ old.stream.here.left.frames)
  pub kept : new.stream.kept ≡ old.stream.kept
  pub cause : (f : Failed) → result ≡ Err (errors.Read f) → ReadsRose slot old.depot new.depot
  pub counts : SparesReads (end_by ng_end result) old.depot new.depot

-- ---- the next packet

-- Behind blocks without a packet a block begins at this place of the file, and at it this is the first fault or limit with what is left
-- there of the limits.
pub record StopsAt (old : Place) (l : List ℕ) (there : Place) (e : NgError) : Type 0 where
  pub rest : List ℕ
  pub goes : Goes [] old.section l there.section rest
  pub place : there.at + length rest ≡ old.at + length l
  pub step : step_of there.left there.at there.section rest ≡ Err e

-- Behind blocks without a packet bytes of a block lack in what was fetched of these bytes, of which these are still left.
pub record WaitsAt (old : Place) (l : List ℕ) (there : Section) (left : List ℕ) : Type 0 where
  pub rest : List ℕ
  pub goes : Goes [] old.section l there rest
  pub lacks : Lacks there rest left

-- The next packet of a stream. Where the depot tells, it is that of the bytes that come, none where they end between two blocks of a
-- section, or the first fault or limit (`tells`, `stops`); except that the depot may fail, which its count shows (`cause`), and memory may
-- be refused. The place counts the bytes of the blocks that are gone, and the limits are lowered by them and by a frame for each packet
-- (`place`, `bytes`, `frames`). A fetch is made only while bytes of the block lack: each may fail, none fails unheard (`counts`), and
-- where one failed bytes of a block lacked (`waits`). An error is kept (`fails`), and answered again with all as it was (`again`).
pub record StreamReads (slot : ℕ) (old new : StreamStand) (result : Result (Option NgRecord) NgError) : Type 0 where
  pub reads : Reads (old.depot.name slot) old.depot new.depot
  pub tells : IsTrue old.depot.told → let s = old.stream.here.section in let l = bytes_ahead slot old in let t = new.stream.here.section in
      IfOk result (λ o. MatchOption o (Goes [] s l t [] × IsTrue (is_some t.order)) (λ r. Goes (r ∷ []) s l t (bytes_ahead slot new)))
  pub ended : IsTrue old.depot.told → IfOk result (λ o. MatchOption o (bytes_ahead slot new ≡ []) (λ r. Unit {0}))
  pub stops : IsTrue old.depot.told → old.stream.kept ≡ None → IfErr result (λ e. IsSaid (ng_end e) → StopsAt old.stream.here (bytes_ahead slot old) new.stream.here e)
  pub waits : IsTrue old.depot.told → old.stream.kept ≡ None → (f : Failed) → result ≡ Err (errors.Read f) → WaitsAt old.stream.here (bytes_ahead slot old) new.stream.here.section (new.depot.left slot)
  pub place : IsTrue old.depot.told → IfOk result (λ o. new.stream.here.at + length (bytes_ahead slot new) ≡ old.stream.here.at + length (bytes_ahead slot old))
  pub bytes : new.stream.here.at + new.stream.here.left.bytes ≡ old.stream.here.at + old.stream.here.left.bytes
  pub frames : MatchResult result (λ o. new.stream.here.left.frames + length (listed o) ≡ old.stream.here.left.frames) (λ e. new.stream.here.left.frames ≡ old.stream.here.left.frames)
  pub kept : IfOk result (λ o. AreKept (listed o))
  pub fails : MatchResult result (λ o. (old.stream.kept ≡ None) × (new.stream.kept ≡ None)) (λ e. new.stream.kept ≡ Some e)
  pub again : (e : NgError) → old.stream.kept ≡ Some e → (result ≡ Err e) × (new ≡ old)
  pub cause : old.stream.kept ≡ None → (f : Failed) → result ≡ Err (errors.Read f) → ReadsRose slot old.depot new.depot
  pub counts : SparesReads (end_by ng_end result) old.depot new.depot

-- ---- a stream that was read from its first byte

-- what these packets and bytes leave of the limits
abbrev pub left_of : Budget → List NgRecord → ℕ → Budget
left_of budget v gone = record { bytes = budget.bytes - gone; frames = budget.frames - length v }

-- A file begins with these packets, within the limits, and at the block behind them and behind others without a packet this is the first
-- fault or limit, with what the packets and the bytes before it leave of the limits.
pub record Stops (v : List NgRecord) (file : List ℕ) (budget : Budget) (e : NgError) : Type 0 where
  pub section : Section
  pub rest : List ℕ
  pub begins : BeginsWith v file section rest
  pub bytes : length file - length rest ≤ budget.bytes
  pub frames : length v ≤ budget.frames
  pub step : step_of (left_of budget v (length file - length rest)) (length file - length rest) section rest ≡ Err e

-- What stands before and behind each packet of a stream that was begun with this budget where the depot stood so.
pub record Streamed (slot : ℕ) (start : Seen) (budget : Budget) (now : StreamStand) (v : List NgRecord) : Type 0 where
  pub fresh : now.stream.kept ≡ None
  pub bytes : now.stream.here.at + now.stream.here.left.bytes ≡ budget.bytes
  pub frames : now.stream.here.left.frames + length v ≡ budget.frames
  pub kept : AreKept v
  pub begins : IsTrue start.told → BeginsWith v (start.left slot) now.stream.here.section (bytes_ahead slot now)
  pub place : IsTrue start.told → now.stream.here.at + length (bytes_ahead slot now) ≡ length (start.left slot)

-- a file that begins with packets and then has nothing is a file of them
abbrev pub StreamIsFile : Type 0
StreamIsFile = (v : List NgRecord) (l : List ℕ) (t : Section) → BeginsWith v l t [] → IsTrue (is_some t.order) → IsNg v l

-- where a stream stops, reading the whole file ends in the same fault or limit
abbrev pub StreamStopsAsFile : Type 0
StreamStopsAsFile = (v : List NgRecord) (l : List ℕ) (budget : Budget) (e : NgError) → Stops v l budget e → ng_read budget l ≡ Err e
