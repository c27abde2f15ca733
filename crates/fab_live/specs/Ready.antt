-- What a packet needs of a forwarder that runs, whatever led to where it stands, and what it leaves of it.
use Rattle.std.specs.Prelude.{◌≡◌, ℕ, ◌+◌, ◌-◌, ◌<◌, ◌≤◌, ◌^◌, ◌⊎◌, min, replicate, IsTrue, IfSome, List, [], ◌∷◌, ◌++◌, length, slice_get, Some, unwrap_or}
use Rattle.fab_base.specs.Seen.{Seen}
use Rattle.fab_config.specs.Settings.{Settings}
use Rattle.pcap_file.specs.Capture.{head_bytes}
use Rattle.pcap_file.specs.declared.fault.LimitKind.TheVariants as limits
use Rattle.pcapng_file.specs.Classic.{classic_records}
use Rattle.pcapng_file.specs.File.{AreKept}
use Rattle.pcapng_file.specs.declared.NgRecord.{NgRecord}
use Rattle.fab_policy.specs.Journal.{Journal}
use Rattle.fab_policy.specs.Legal.{window_start}
use Rattle.fab_policy.specs.Outputs.{State}
use Rattle.fab_policy.specs.Ranged.{IsRanged}
use Rattle.fab_states.specs.Runs.{RunFrom}
use Rattle.fab_windows.specs.Files.{Hold}
use Rattle.fab_windows.specs.From.{FrontsOn, Origin, WholesOn, captures_till, journal_till, nothing_of}
use Rattle.fab_windows.specs.Pages.{IsNothing, pending}
use Rattle.fab_live.specs.declared.fault.LiveFault.{LiveFault}
use Rattle.fab_live.specs.declared.fault.LiveFault.TheVariants as fault
use Rattle.fab_live.specs.declared.live.Live.{Live}
use Rattle.fab_live.specs.Arriving.{AllFaces, IsInSpan, arrived, first_start, greatest_of, of_face, records_of}
use Rattle.fab_live.specs.Files.{AreLive, Came, CameSome, LiveSlots}
use Rattle.fab_live.specs.From.{RunningFrom, reach}

-- Open files of all ports, a fabric of these ports with nothing undrained, whose clock is the window of the greatest moment of a
-- frame so far, a number for each port, and empty pages.
pub record IsReady (f : LiveSlots) (l : Live) (d : Seen) : Type 0 where
  pub files : AreLive d f
  pub width : length f.ins ≡ length f.outs
  pub few : length f.outs ≤ 64
  pub count : l.fabric.count ≡ length f.outs
  pub events : l.fabric.events ≡ []
  pub outs : l.fabric.outs ≡ []
  pub range : l.greatest < 2 ^ 43
  pub clock : IfSome l.fabric.state.tables.clock (λ t. t ≡ window_start l.fabric.settings l.greatest)
  pub size : length l.counts.items ≡ length f.outs
  pub nothing : IsNothing (pending l.pages)
  pub pages : length l.pages.records.items ≡ length f.outs

-- one more frame of a port can be counted
abbrev pub HasRoom : Live → ℕ → Type 0
HasRoom l q = (i : ℕ) → slice_get l.counts.items q ≡ Some i → i + 1 < 2 ^ 64

-- What stands behind each packet of a forwarder that went on from a state, from the next index of each port and from a greatest
-- moment.
pub record GoesFrom (c : Settings) (S : State) (firsts : List ℕ) (g : ℕ) (f : LiveSlots) (packets : List NgRecord) (K : Journal) (l : Live) : Type 0 where
  pub running : RunningFrom c S firsts g (length f.outs) (reach l.fabric) packets K l.fabric
  pub greatest : l.greatest ≡ greatest_of g packets
  pub counts : (q : ℕ) → q < length f.outs → slice_get l.counts.items q ≡ Some (unwrap_or (slice_get firsts q) 0 + length (of_face q (arrived g packets)))

-- ---- the files

-- Where a forwarder goes on from: what the fabric kept, and what journal and outputs have before the first entry since then; how many
-- frames each port had, the greatest moment of a frame so far, and what the captures of what came have before the first packet.
pub record Beginning : Type 0 where
  pub origin : Origin
  pub firsts : List ℕ
  pub greatest : ℕ
  pub heads : ℕ → List ℕ

-- that of n ports of a forwarder that nothing came to
abbrev pub nothing_of_live : Settings → ℕ → Beginning
nothing_of_live c n = record { origin = nothing_of c; firsts = replicate n 0; greatest = 0; heads = λ q. head_bytes }

-- what came since then, behind that, by ports counted from 0
abbrev pub came_on : Beginning → List NgRecord → ℕ → List ℕ
came_on b packets q = b.heads q ++ classic_records (of_face q (arrived b.greatest packets))

-- The files hold what came, the entries, and what these send.
pub record HoldLiveOn (c : Settings) (b : Beginning) (d : Seen) (f : LiveSlots) (packets : List NgRecord) (K : Journal) : Type 0 where
  pub wholes : WholesOn c b.origin d f.journal f.outs K
  pub came : Came d f.ins (came_on b packets)

-- They hold beginnings of it, written in order.
pub record HoldSomeOn (c : Settings) (b : Beginning) (d : Seen) (f : LiveSlots) (packets : List NgRecord) (K : Journal) : Type 0 where
  pub fronts : FrontsOn c b.origin d f.journal f.outs K
  pub came : CameSome d f.ins (came_on b packets)
  pub order : Came d f.ins (came_on b packets) ⊎ Hold d f.journal f.outs (journal_till b.origin fronts.before) (captures_till c b.origin (length f.outs) fronts.before)

-- ---- the run

-- entries that are a run of n ports over the packets so far, whose numbers have their ranges and whose windows aren't too far apart
pub record IsLiveRunOn (c : Settings) (b : Beginning) (n : ℕ) (packets : List NgRecord) (K : Journal) : Type 0 where
  pub ranged : IsRanged K
  pub run : RunFrom c b.origin.state b.firsts (records_of n (arrived b.greatest packets)) K
  pub faces : AllFaces n packets
  pub span : IsInSpan c (arrived b.greatest packets)
  pub kept : AreKept packets

-- What stands behind each packet: the forwarder is ready for the next one, its entries are a run from where it went on, and the files
-- hold all of it.
pub record Running (c : Settings) (b : Beginning) (f : LiveSlots) (packets : List NgRecord) (K : Journal) (l : Live) (d : Seen) : Type 0 where
  pub ready : IsReady f l d
  pub goes : GoesFrom c b.origin.state b.firsts b.greatest f packets K l
  pub faces : AllFaces (length f.outs) packets
  pub span : IsInSpan c (arrived b.greatest packets)
  pub kept : AreKept packets
  pub first : l.first ≡ first_start c (arrived b.greatest packets)
  pub frames : l.done.frames ≡ length packets
  pub entries : l.done.entries ≡ min (length K) (2 ^ 64 - 1)
  pub hold : IsTrue d.told → HoldLiveOn c b d f packets K

-- ---- endings

-- The files hold all of the packets so far; or beginnings of it.
pub record LeftWholeOn (c : Settings) (b : Beginning) (d : Seen) (f : LiveSlots) (packets : List NgRecord) : Type 0 where
  pub entry_list : Journal
  pub run : IsLiveRunOn c b (length f.outs) packets entry_list
  pub hold : IsTrue d.told → HoldLiveOn c b d f packets entry_list

pub record LeftBrokenOn (c : Settings) (b : Beginning) (d : Seen) (f : LiveSlots) (packets : List NgRecord) : Type 0 where
  pub entry_list : Journal
  pub run : IsLiveRunOn c b (length f.outs) packets entry_list
  pub hold : IsTrue d.told → HoldSomeOn c b d f packets entry_list

-- what taking a packet leaves where it fails: all but this packet, or beginnings of it
abbrev pub LeavesPacket : Settings → Beginning → LiveSlots → List NgRecord → NgRecord → Seen → LiveFault → Type 0
LeavesPacket c b f packets r d fault.Write = LeftBrokenOn c b d f (packets ++ r ∷ [])
LeavesPacket c b f packets r d fault.Memory = LeftWholeOn c b d f packets
LeavesPacket c b f packets r d (fault.Limit limits.Span) = LeftWholeOn c b d f packets × (¬ IsInSpan c (arrived b.greatest (packets ++ r ∷ [])))
LeavesPacket c b f packets r d _ = ⊥
