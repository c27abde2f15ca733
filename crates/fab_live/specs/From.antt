-- What a packet makes of a run that began from a state, whatever led to it.
use Rattle.std.specs.Prelude.{◌≡◌, ℕ, ◌+◌, ◌<◌, ◌≤◌, ◌^◌, IfSome, List, [], ◌∷◌, ◌++◌, length, slice_get, Some, None, unwrap_or}
use Rattle.fab_config.specs.Settings.{Settings}
use Rattle.pcapng_file.specs.Classic.{recorded}
use Rattle.pcapng_file.specs.declared.NgRecord.{NgRecord}
use Rattle.fab_policy.specs.Journal.{Journal, followed, frame_count}
use Rattle.fab_policy.specs.Legal.{window_start}
use Rattle.fab_policy.specs.Outputs.{State}
use Rattle.fab_policy.specs.Standing.{Contents}
use Rattle.fab_policy.specs.declared.event.Event.{Event}
use Rattle.fab_sending.specs.declared.message.Out.{Out}
use Rattle.fab_pages.specs.Pages.{AreEarly}
use Rattle.fab_windows.specs.Steps.{Sofar}
use Rattle.fab_live.specs.Arriving.{arrive, arrived, greatest_of, port_records, records_of}
use Rattle.fab_live.specs.Handling.{HandlesOne}

-- the window that is next behind a fabric's clock
abbrev pub reach : Contents → ℕ
reach F = elim F.state.tables.clock [ None ↦ 0 | Some t ↦ t + 1 ]

-- What stands behind each packet of a forwarder that went on from a state, the next indexes and the greatest moment so far.
pub record RunningFrom (c : Settings) (S : State) (firsts : List ℕ) (g n v : ℕ) (packets : List NgRecord) (K : Journal) (F : Contents) : Type 0 where
  pub sofar : Sofar c S firsts n v (records_of n (arrived g packets)) K F
  pub width : length firsts ≡ n
  pub reach : IfSome F.state.tables.clock (λ t. v ≡ t + 1)
  pub clock : IfSome F.state.tables.clock (λ t. t ≡ window_start c (greatest_of g packets))
  pub counted : frame_count K ≡ length packets

-- The frame of the next packet is in the clock's window or a later one, what handling it makes stands behind it, and it is sent
-- early enough to be written.
pub record TakesFrom (c : Settings) (S : State) (firsts : List ℕ) (g n w : ℕ) (packets : List NgRecord) (r : NgRecord) (K : Journal) (E : Contents) (events : List Event) (outs : List Out) : Type 0 where
  pub running : RunningFrom c S firsts g n (w + 1) (packets ++ r ∷ []) (followed K events) E
  pub early : w < 2 ^ 53 → AreEarly outs

abbrev pub PacketsGoOn : Type 0
PacketsGoOn =
    (c : Settings) (S : State) (firsts : List ℕ) (g n v w : ℕ) (packets : List NgRecord) (K : Journal) (F : Contents) → RunningFrom c S firsts g n v packets K F
    → (r : NgRecord) → r.face < n → window_start c (arrive (greatest_of g packets) r).moment ≡ w → v ≤ w + 1
    → (port index : ℕ) → port ≡ r.face + 1 → index ≡ unwrap_or (slice_get firsts r.face) 0 + length (port_records (arrived g packets) r.face)
    → (E : Contents) (events : List Event) (outs : List Out) → HandlesOne w port index (recorded (arrive (greatest_of g packets) r)) F E events outs
    → TakesFrom c S firsts g n w packets r K E events outs

-- Each fabric with nothing undrained stands before its first packet from its own state, whatever led to it, where its clock is the
-- window of the greatest moment of a frame so far.
abbrev pub PacketsBegin : Type 0
PacketsBegin =
    (F : Contents) (firsts : List ℕ) (g n : ℕ) → F.events ≡ [] → F.outs ≡ [] → F.count ≡ n → length firsts ≡ n → IfSome F.state.tables.clock (λ t. t ≡ window_start F.settings g)
    → RunningFrom F.settings F.state firsts g n (reach F) [] [] F
