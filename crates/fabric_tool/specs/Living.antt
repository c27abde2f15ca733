-- How `live` ends: a forwarder runs over a stream of packets, whose interfaces are its ports, and records the session.
use Rattle.std.specs.Prelude.{◌≡◌, ℕ, ◌<◌, ◌≤◌, ◌⊎◌, IsTrue, List, [], ◌∷◌, ◌++◌, length, map, Some}
use Rattle.fab_base.specs.Seen.{Seen, Rose, SameFiles}
use Rattle.fab_base.specs.Sunk.{Sunk}
use Rattle.fab_config.specs.Settings.{Settings}
use Rattle.pcapng_file.specs.declared.NgRecord.{NgRecord}
use Rattle.pcapng_file.specs.Classic.{classic_bytes}
use Rattle.fab_policy.specs.Journal.{Journal, frame_count}
use Rattle.fab_base.specs.Counting.{counting}
use Rattle.fab_policy.specs.Text.{text}
use Rattle.pcap_file.specs.declared.fault.LimitKind.{LimitKind}
use Rattle.fab_windows.specs.Run.{IsRunOver}
use Rattle.fab_live.specs.Arriving.{arrived, of_face, records_of, AllFaces, IsInSpan}
use Rattle.fab_live.specs.Live.{IsLiveRun, Begins, IsFaulty, IsNoPort, IsPast}
use Rattle.fabric_tool.specs.Command.{RunNames, LiveWords, by_port}
use Rattle.fabric_tool.specs.Ending.{Ending, Never, Untouched, Leaves, LeavesUnread, Unwritten}
use Rattle.fabric_tool.specs.Inputs.{HasConfig, HasFault, HasPackets, AreCaptures, LIMITS}
use Rattle.fabric_tool.specs.Left.{HoldsAll, HoldsFronts, AreOldOrFront, IsSafe}
use Rattle.fabric_tool.specs.Outcome.{run_text}
use Rattle.fabric_tool.specs.declared.outcome.Outcome.{Outcome}
use Rattle.fabric_tool.specs.declared.outcome.Outcome.TheVariants as ends
use Rattle.fabric_tool.specs.Meaning.{Meaning}

-- ---- the session

-- the names of what is recorded, as `replay` takes them
abbrev pub session_of : LiveWords → RunNames
session_of k = record { config = k.config; journal = k.journal; ins = k.ins; outs = k.outs }

-- what came on each of n ports: the classic capture of its packets, as they were taken
abbrev pub came_on : List NgRecord → ℕ → List ℕ
came_on packets q = classic_bytes (of_face q (arrived 0 packets))

abbrev pub all_came : ℕ → List NgRecord → List (List ℕ)
all_came n packets = map (came_on packets) (counting 0 n)

-- the files hold what came, the journal, and what it sends
pub record HoldsSession (k : LiveWords) (c : Settings) (d : Seen) (packets : List NgRecord) (J : Journal) : Type 0 where
  pub sent : HoldsAll (session_of k) c d J
  pub came : map (λ n. d.file n) k.ins ≡ map (λ l. Some l) (all_came (length k.ins) packets)

-- each of them is as it was, or holds a front of that; journal and outputs were written in order
pub record HoldsSessionFronts (k : LiveWords) (c : Settings) (old new : Seen) (packets : List NgRecord) (J : Journal) : Type 0 where
  pub sent : HoldsFronts (session_of k) (k.journal ∷ by_port k.ins k.outs) c old new J
  pub came : AreOldOrFront old new k.ins (all_came (length k.ins) packets)

-- The session of some packets, each of a port, whose windows aren't too far apart: one journal, the only one with that text, is a run
-- over their records, each port's once and in order; it is safe; its text and captures stand in the outputs, and each port's packets
-- in its capture of what came, of which the records are those of the run.
pub record HasSession (k : LiveWords) (c : Settings) (packets : List NgRecord) (new : Seen) : Type 0 where
  pub journal : Journal
  pub run : IsLiveRun c (length k.outs) packets journal
  pub one : (I : Journal) → IsRunOver c (records_of (length k.outs) (arrived 0 packets)) I → new.file k.journal ≡ Some (text I) → I ≡ journal
  pub safe : IsSafe c journal
  pub files : HoldsSession k c new packets journal
  pub captures : AreCaptures new k.ins (records_of (length k.outs) (arrived 0 packets))

-- ---- how it ends

-- The headline. Of the files as the call found them, the configuration has a value, and the stream is a pcapng file of packets within
-- the limits; and the outputs are the session of all its packets.
pub record HasLived (k : LiveWords) (frames entries : ℕ) (old new : Seen) : Type 0 where
  pub settings : Settings
  pub config : HasConfig old k.config settings
  pub packets : List NgRecord
  pub stream : HasPackets old k.stream packets
  pub session : HasSession k settings packets new
  pub packets_are : frames ≡ length packets
  pub frames_are : frames ≡ frame_count session.journal
  pub entries_are : entries ≡ length session.journal

-- Of the files as the call found them, the configuration has a value, the stream begins with these packets, each of a port and not too
-- far apart, and behind them it can't be taken on for this reason.
pub record HasHalt (k : LiveWords) (Why : Settings → List NgRecord → List ℕ → Type 0) (d : Seen) : Type 0 where
  pub settings : Settings
  pub config : HasConfig d k.config settings
  pub bytes : List ℕ
  pub stream : d.file k.stream ≡ Some bytes
  pub packets : List NgRecord
  pub faces : AllFaces (length k.outs) packets
  pub span : IsInSpan settings (arrived 0 packets)
  pub why : Why settings packets bytes

-- The same, and the outputs are the session of those packets.
pub record HasHalted (k : LiveWords) (Why : Settings → List NgRecord → List ℕ → Type 0) (old new : Seen) : Type 0 where
  pub halt : HasHalt k Why old
  pub session : HasSession k halt.settings halt.packets new

-- nothing more is said of the packets than that the stream begins with them
abbrev pub IsBegun : Settings → List NgRecord → List ℕ → Type 0
IsBegun c packets bytes = Begins packets bytes

-- The outputs are told by the session of some packets with which the stream begins.
pub record HasLiveFront (k : LiveWords) (old new : Seen) : Type 0 where
  pub halt : HasHalt k IsBegun old
  pub journal : Journal
  pub run : IsLiveRun halt.settings (length k.outs) halt.packets journal
  pub files : HoldsSessionFronts k halt.settings old new halt.packets journal

-- Which input of `live` couldn't be read, where what is read before it has its form: the configuration, or the stream before anything of
-- it was read, and no file has changed; or the stream behind some packets, whose session the outputs are.
abbrev pub IsLiveUnread : LiveWords → Seen → Seen → Type 0
IsLiveUnread k old new =
    (SameFiles old new × Rose (old.read_faults k.config) (new.read_faults k.config))
    ⊎ ((SameFiles old new × Rose (old.read_faults k.stream) (new.read_faults k.stream) × ((c : Settings) × HasConfig old k.config c))
    ⊎ (Rose (old.read_faults k.stream) (new.read_faults k.stream) × HasHalted k IsBegun old new))

-- Where memory is refused, no file has changed; or the outputs are the session of the packets so far; or, where there was no packet yet,
-- fronts of it.
abbrev pub IsLiveRefused : LiveWords → Seen → Seen → Type 0
IsLiveRefused k old new = SameFiles old new ⊎ (HasHalted k IsBegun old new ⊎ ((f : HasLiveFront k old new) × (f.halt.packets ≡ [])))

-- What holds where `live` ends so. What is said of bytes needs a depot that tells them. No fault of the depot is passed over: where it
-- isn't told, no count of such faults has changed.
abbrev pub live_ending : LiveWords → Seen → Seen → Outcome → Ending
live_ending k old new (ends.Ran frames entries) = Leaves (HasLived k frames entries old new)
live_ending k old new (ends.Config fault) = Untouched (HasFault old k.config fault)
live_ending k old new (ends.BadStream at fault) = Leaves (HasHalted k (λ c. IsFaulty LIMITS at fault) old new)
live_ending k old new (ends.NoPort face) = Leaves (HasHalted k (λ c. IsNoPort LIMITS (length k.outs) face) old new)
live_ending k old new (ends.Limit kind) = Leaves (HasHalted k (λ c. IsPast c LIMITS (length k.outs) kind) old new)
live_ending k old new ends.ReadFault = LeavesUnread (IsLiveUnread k old new)
live_ending k old new ends.WriteFault = Unwritten (HasLiveFront k old new)
live_ending k old new ends.Memory = Leaves (IsLiveRefused k old new)
live_ending k old new _ = Never

-- ---- by status

-- Status 0: the outputs are the session of the stream, and the line with its numbers was printed.
pub record LiveEnded (k : LiveWords) (old new : Seen) (before after : Sunk) : Type 0 where
  pub frames : ℕ
  pub entries : ℕ
  pub lived : HasLived k frames entries old new
  pub printed : IsTrue before.told → after.written ≡ before.written ++ run_text frames entries

-- ---- where nothing fails

-- the inputs have their forms: the configuration has a value, and the stream is a pcapng file of packets within the limits, each of a
-- port, whose windows aren't too far apart
pub record LiveForms (k : LiveWords) (d : Seen) : Type 0 where
  pub told : IsTrue d.told
  pub settings : Settings
  pub config : HasConfig d k.config settings
  pub packets : List NgRecord
  pub stream : HasPackets d k.stream packets
  pub faces : AllFaces (length k.outs) packets
  pub span : IsInSpan settings (arrived 0 packets)

-- what the inputs are refused for: the configuration's fault, or what comes first in the stream
abbrev pub LiveSays : LiveWords → Seen → Outcome → Type 0
LiveSays k d (ends.Config fault) = HasFault d k.config fault
LiveSays k d (ends.BadStream at fault) = HasHalt k (λ c. IsFaulty LIMITS at fault) d
LiveSays k d (ends.NoPort face) = HasHalt k (λ c. IsNoPort LIMITS (length k.outs) face) d
LiveSays k d (ends.Limit kind) = HasHalt k (λ c. IsPast c LIMITS (length k.outs) kind) d
LiveSays k d _ = ⊥

-- ---- the command

abbrev pub live_meaning : LiveWords → Meaning
live_meaning k = record {
  reads = k.config ∷ k.stream ∷ [];
  writes = k.journal ∷ by_port k.ins k.outs;
  end = live_ending k;
  Done = λ old new before after. IsTrue old.told → LiveEnded k old new before after;
  Front = λ old new. SameFiles old new ⊎ HasLiveFront k old new;
  Forms = LiveForms k;
  Says = LiveSays k;
}
