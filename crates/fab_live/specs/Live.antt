-- What a forwarder that runs leaves in its files behind each packet, and however its stream ends.
use Rattle.std.specs.Prelude.{◌≡◌, ℕ, ◌+◌, ◌-◌, ◌<◌, ◌≤◌, ◌⊎◌, IsTrue, List, [], ◌∷◌, ◌++◌, length, Result, Ok, Err, OnOk, IfErr}
use Rattle.fab_base.specs.Ending.{end_by, Uses}
use Rattle.fab_base.specs.Seen.{Seen, Nothing, Only}
use Rattle.fab_config.specs.Settings.{Settings}
use Rattle.pcap_file.specs.declared.Budget.{Budget}
use Rattle.pcapng_file.specs.declared.NgRecord.{NgRecord}
use Rattle.pcapng_file.specs.declared.fault.NgError.{NgError}
use Rattle.pcapng_file.specs.declared.fault.NgError.TheVariants as errors
use Rattle.pcapng_file.specs.declared.fault.NgLimit.TheVariants as ng_limits
use Rattle.pcapng_file.specs.declared.fault.NgWhy.{NgWhy}
use Rattle.pcapng_file.specs.Classic.{classic_bytes}
use Rattle.pcapng_file.specs.File.{AreKept, IsNg, Section}
use Rattle.pcapng_file.specs.Stream.{BeginsWith, Stops}
use Rattle.fab_policy.specs.Journal.{Journal, frame_count}
use Rattle.pcap_file.specs.declared.fault.LimitKind.{LimitKind}
use Rattle.pcap_file.specs.declared.fault.LimitKind.TheVariants as limits
use Rattle.run_files.specs.Faults.{IsUnwritten}
use Rattle.fab_windows.specs.declared.Done.{Done}
use Rattle.fab_windows.specs.Files.{Hold, Wholes, Fronts, text_so_far, captures_so_far}
use Rattle.fab_windows.specs.Run.{IsRunOver}
use Rattle.fab_live.specs.declared.live.Live.{Live}
use Rattle.fab_live.specs.declared.fault.LiveFault.{LiveFault}
use Rattle.fab_live.specs.declared.fault.LiveFault.TheVariants as fault
use Rattle.fab_live.specs.Files.{LiveSlots, LiveNames, AreLive, Came, CameSome, live_end}
use Rattle.fab_live.specs.Arriving.{arrived, of_face, records_of, AllFaces, IsInSpan}

-- ---- files

-- The files hold what came, the journal, and what it sends.
pub record HoldLive (c : Settings) (d : Seen) (f : LiveSlots) (packets : List NgRecord) (J : Journal) : Type 0 where
  pub wholes : Wholes c d f.journal f.outs J
  pub came : Came d f.ins (λ q. classic_bytes (of_face q (arrived 0 packets)))

-- They hold beginnings of it, written in order: journal and outputs in theirs, and before what came is whole they are as they were.
-- So no line stands there whose frame isn't in the capture of its port.
pub record HoldSome (c : Settings) (d : Seen) (f : LiveSlots) (packets : List NgRecord) (J : Journal) : Type 0 where
  pub fronts : Fronts c d f.journal f.outs J
  pub came : CameSome d f.ins (λ q. classic_bytes (of_face q (arrived 0 packets)))
  pub order : Came d f.ins (λ q. classic_bytes (of_face q (arrived 0 packets))) ⊎ Hold d f.journal f.outs (text_so_far fronts.before) (captures_so_far c (length f.outs) fronts.before)

-- ---- the run

-- one journal that is a run of n ports over the packets so far, whose numbers have their ranges and whose windows aren't too far apart
pub record IsLiveRun (c : Settings) (n : ℕ) (packets : List NgRecord) (J : Journal) : Type 0 where
  pub run : IsRunOver c (records_of n (arrived 0 packets)) J
  pub faces : AllFaces n packets
  pub span : IsInSpan c (arrived 0 packets)
  pub kept : AreKept packets

-- ---- endings

-- The files hold all of the packets so far.
pub record LeftWhole (c : Settings) (d : Seen) (f : LiveSlots) (packets : List NgRecord) : Type 0 where
  pub entry_list : Journal
  pub run : IsLiveRun c (length f.outs) packets entry_list
  pub hold : IsTrue d.told → HoldLive c d f packets entry_list

-- They hold beginnings of it: a packet, or the heads, couldn't be written wholly.
pub record LeftBroken (c : Settings) (d : Seen) (f : LiveSlots) (packets : List NgRecord) : Type 0 where
  pub entry_list : Journal
  pub run : IsLiveRun c (length f.outs) packets entry_list
  pub hold : IsTrue d.told → HoldSome c d f packets entry_list

-- They hold all of the packets so far, or, where there was none, beginnings of the heads.
abbrev pub LeftRefused : Settings → Seen → LiveSlots → List NgRecord → Type 0
LeftRefused c d f packets = LeftWhole c d f packets ⊎ ((packets ≡ []) × LeftBroken c d f packets)

-- What a packet that isn't taken leaves of the numbers: how many came on each port, the first window, the greatest time, and how
-- many frames and entries there were.
pub record KeepsNumbers (old new : Live) : Type 0 where
  pub counts : new.counts ≡ old.counts
  pub first : new.first ≡ old.first
  pub greatest : new.greatest ≡ old.greatest
  pub done : new.done ≡ old.done

-- what a fault of the stream ends it by
abbrev pub fault_of : NgError → LiveFault
fault_of (errors.Fault at why) = fault.Block at why
fault_of (errors.Limit ng_limits.Bytes) = fault.Limit limits.Bytes
fault_of (errors.Limit ng_limits.Frames) = fault.Limit limits.Frames
fault_of (errors.Read failed) = fault.Read
fault_of errors.Memory = fault.Memory

-- ---- what is handed in

-- an open input and open outputs, all of different names
pub record AreOpen (d : Seen) (stream : ℕ) (f : LiveSlots) : Type 0 where
  pub input : IsTrue (d.input stream)
  pub apart : ¬ LiveNames d f (d.name stream)
  pub files : AreLive d f

-- An open input and open outputs, all of different names, which are empty.
pub record AreGiven (d : Seen) (stream : ℕ) (f : LiveSlots) : Type 0 where
  pub input : IsTrue (d.input stream)
  pub apart : ¬ LiveNames d f (d.name stream)
  pub files : AreLive d f
  pub width : length f.ins ≡ length f.outs
  pub empty : IsTrue d.told → Hold d f.journal f.outs [] (λ q. []) × Came d f.ins (λ q. [])

-- ---- however it ends

-- a stream begins with these packets
abbrev pub Begins : List NgRecord → List ℕ → Type 0
Begins packets stream = (s : Section) × (rest : List ℕ) × BeginsWith packets stream s rest

-- A stream begins with these packets, within the limits.
pub record BeginsWithin (packets : List NgRecord) (stream : List ℕ) (budget : Budget) : Type 0 where
  pub section : Section
  pub rest : List ℕ
  pub begins : BeginsWith packets stream section rest
  pub bytes : length stream - length rest ≤ budget.bytes
  pub frames : length packets ≤ budget.frames

-- why nothing more is taken behind some packets: a block has a fault; the next packet is of an interface that is none of n ports; a limit
-- is passed, which may be by a packet
abbrev pub IsFaulty : Budget → ℕ → NgWhy → List NgRecord → List ℕ → Type 0
IsFaulty budget at why packets stream = Stops packets stream budget (errors.Fault at why)

abbrev pub IsNoPort : Budget → ℕ → ℕ → List NgRecord → List ℕ → Type 0
IsNoPort budget n face packets stream = Begins packets stream × (r : NgRecord) × BeginsWithin (packets ++ r ∷ []) stream budget × (r.face ≡ face) × (n ≤ face)

abbrev pub IsPast : Settings → Budget → ℕ → LimitKind → List NgRecord → List ℕ → Type 0
IsPast c budget n limits.Bytes packets stream = Stops packets stream budget (errors.Limit ng_limits.Bytes)
IsPast c budget n limits.Frames packets stream = Stops packets stream budget (errors.Limit ng_limits.Frames)
IsPast c budget n limits.Span packets stream =
    Begins packets stream × (r : NgRecord) × BeginsWithin (packets ++ r ∷ []) stream budget × (r.face < n) × (¬ IsInSpan c (arrived 0 (packets ++ r ∷ [])))

-- A stream to its end.
pub record LiveFinished (c : Settings) (budget : Budget) (f : LiveSlots) (stream : List ℕ) (d : Seen) (done : Done) : Type 0 where
  pub packets : List NgRecord
  pub file : IsNg packets stream
  pub bytes : length stream ≤ budget.bytes
  pub count : length packets ≤ budget.frames
  pub left : LeftWhole c d f packets
  pub frames : done.frames ≡ length packets
  pub entries : done.entries ≡ length left.entry_list
  pub counted : frame_count left.entry_list ≡ length packets

-- The files hold the packets of the stream up to its end, or up to a fault; or beginnings of some packets.
abbrev pub LiveEnds : Settings → Budget → LiveSlots → List ℕ → Seen → Result Done LiveFault → Type 0
LiveEnds c budget f stream d (Ok done) = LiveFinished c budget f stream d done
LiveEnds c budget f stream d (Err (fault.Block at why)) = (packets : List NgRecord) × IsFaulty budget at why packets stream × LeftWhole c d f packets
LiveEnds c budget f stream d (Err (fault.Limit kind)) = (packets : List NgRecord) × IsPast c budget (length f.outs) kind packets stream × LeftWhole c d f packets
LiveEnds c budget f stream d (Err (fault.Port face)) = (packets : List NgRecord) × IsNoPort budget (length f.outs) face packets stream × LeftWhole c d f packets
LiveEnds c budget f stream d (Err fault.Read) = (packets : List NgRecord) × Begins packets stream × LeftWhole c d f packets
LiveEnds c budget f stream d (Err fault.Write) = (packets : List NgRecord) × Begins packets stream × LeftBroken c d f packets
LiveEnds c budget f stream d (Err fault.Memory) = (packets : List NgRecord) × Begins packets stream × LeftRefused c d f packets

-- A forwarder that ran over a stream, which it reads, while it writes the files.
pub record LiveRuns (c : Settings) (budget : Budget) (stream : ℕ) (f : LiveSlots) (old new : Seen) (result : Result Done LiveFault) : Type 0 where
  pub uses : Uses (Only (old.name stream)) (LiveNames old f) (end_by live_end result) old new
  pub ends : IsTrue old.told → LiveEnds c budget f (old.left stream) new result

-- ---- inside the crate

-- The heads of all files, which were empty, are written, of whichever configuration; or beginnings of them are.
pub record StartsFiles {T : Type 0} (f : LiveSlots) (old new : Seen) (result : Result T LiveFault) : Type 0 where
  pub uses : Uses Nothing (LiveNames old f) (end_by live_end result) old new
  pub files : AreLive new f
  pub whole : (c : Settings) → OnOk result (IsTrue new.told → HoldLive c new f [] [])
  pub broken : (c : Settings) → IfErr result (λ e. IsUnwritten (live_end e) × LeftBroken c new f [])
