-- What contracts see of a fabric, and what its fields keep.
use Rattle.std.specs.Prelude.{◌≡◌, ℕ, ◌+◌, ◌*◌, ◌<◌, ◌≤◌, ◌^◌, IfSome, List, [], map, Option, Some, None, is_some, false}
use Rattle.std.specs.List.{All}
use Rattle.fab_base.specs.declared.values.Caught.{Caught}
use Rattle.fab_config.specs.Settings.{Settings}
use Rattle.fab_policy.specs.Free.{Request, is_free}
use Rattle.fab_policy.specs.Legal.{IsNextTickBy}
use Rattle.fab_policy.specs.Ranged.{IsRangedEvent}
use Rattle.fab_policy.specs.Standing.{Contents}
use Rattle.fab_policy.specs.State.{Tables, LivePort, port_at}
use Rattle.fab_policy.specs.Verdicts.{judged, MayGrant}
use Rattle.fab_policy.specs.declared.event.Event.{Event}
use Rattle.fab_policy.specs.declared.verdict.Verdict.{Verdict}
use Rattle.fab_policy.specs.declared.verdict.Verdict.TheVariants.{Granted}
use Rattle.fab_sending.specs.Message.{sent_of, AreSendable}
use Rattle.fab_roster.specs.Reaching.{zones_of}
use Rattle.fab_roster.specs.Changes.{IsSoundRoll}
use Rattle.fab_roster.specs.Roll.{Roll}
use Rattle.fc_addresses.specs.Pool.{unused}
use Rattle.forward_core.specs.declared.fabric.Fabric.TheInside.{Inside}

-- the numbers of all entries are in the ranges of their types
abbrev pub AreRanged : List Event → Type 0
AreRanged events = All IsRangedEvent events

abbrev pub contents_of : Inside → Contents
contents_of f = record {
  settings = f.config;
  count = f.ports;
  state = record { tables = f.roster.tables; advertised = f.advertised; rscns = f.rscns };
  events = f.events;
  outs = map (sent_of f.config f.events) f.outs;
}

-- What the fields keep: the roster was made for the configuration, and so were the zones; counts and moments are in range,
-- and what is to be sent can be written.
pub record IsFabric (f : Inside) : Type 0 where
  pub least : 1 ≤ f.ports
  pub most : f.ports ≤ 64
  pub lowest : f.roster.lowest ≡ f.config.domain * 65536 + 256
  pub pool : f.roster.count ≡ f.config.pool
  pub limit : f.roster.limit ≡ f.config.limit
  pub period : f.roster.period ≡ f.config.period
  pub sound : IsSoundRoll f.roster
  pub zones : f.zones ≡ zones_of f.config
  pub advertised : is_some f.advertised ≡ is_some f.roster.tables.clock
  pub range : IfSome f.advertised (λ m. m < 2 ^ 63)
  pub rscns : f.rscns < 65535
  pub ranged : AreRanged f.events
  pub sendable : AreSendable f.events f.outs

-- the roll of a configuration before the first tick
abbrev pub empty_roll : Settings → Roll
empty_roll c = record {
  lowest = c.domain * 65536 + 256;
  count = c.pool;
  limit = c.limit;
  period = c.period;
  tables = record { clock = None; ports = []; past = unused (c.domain * 65536 + 256) c.pool };
}

-- ---- words of the calls

-- the wish of a login that may be granted an address isn't free for it
abbrev pub IsTaken : Settings → Tables → ℕ → Caught → Option ℕ → Type 0
IsTaken c T port caught wish = (r : Request) × (a : ℕ) × (judged c T port caught ≡ MayGrant r) × (wish ≡ Some a) × (is_free T r a ≡ false)

-- the N_Port of an address
abbrev pub live_at : ℕ → Contents → Option LivePort
live_at a F = port_at a F.state.tables.ports

-- A moment is the next tick of a fabric on the way to a window, by what the fabric keeps.
pub record IsTickOf (w : ℕ) (F : Contents) (m : ℕ) : Type 0 where
  pub above : IfSome F.state.tables.clock (λ t. t < m)
  pub within : m ≤ w
  pub next : IsNextTickBy F.settings F.state w m

-- the address that a verdict grants, if it grants one
abbrev pub granted_by : Verdict → Option ℕ
granted_by (Granted address) = Some address
granted_by _ = None
