-- How a roll changes, address by address.
use Rattle.std.specs.Prelude.{◌≡◌, ℕ, ◌+◌, ◌<◌, ◌≤◌, ◌^◌, ◌%◌, ◌==◌, ◌||◌, Bool, true, false, if◌then◌else◌, List, map, length, Some, None, IfSome, option_map}
use Rattle.std.specs.List.{All, list_any}
use Rattle.fab_base.specs.Fabric.{is_silent, past_at, PORT_PERIOD}
use Rattle.zone_rules.specs.Joined.{contains}
use Rattle.fab_policy.specs.Changes.{all_ended, ended_at, granted_to, heard_node}
use Rattle.fab_policy.specs.Logins.{NPort}
use Rattle.fab_policy.specs.State.{LivePort, now_of, port_at}
use Rattle.fab_policy.specs.Steps.{fresh, AreAscending}
use Rattle.fab_policy.specs.Written.{HaveDifferentNames}
use Rattle.fab_roster.specs.Roll.{Roll}

-- the bounds of a roll stay
pub record KeepsBounds (old new : Roll) : Type 0 where
  pub lowest : new.lowest ≡ old.lowest
  pub count : new.count ≡ old.count
  pub limit : new.limit ≡ old.limit
  pub period : new.period ≡ old.period

-- Each N_Port changes by this function, and nothing else changes.
pub record ChangesPorts (change : LivePort → LivePort) (old new : Roll) : Type 0 where
  pub bounds : KeepsBounds old new
  pub clock : new.tables.clock ≡ old.tables.clock
  pub past : new.tables.past ≡ old.tables.past
  pub ports : (a : ℕ) → port_at a new.tables.ports ≡ option_map change (port_at a old.tables.ports)

-- The clock moves on, and nothing else.
pub record Moves (now : ℕ) (old new : Roll) : Type 0 where
  pub bounds : KeepsBounds old new
  pub clock : new.tables.clock ≡ Some now
  pub past : new.tables.past ≡ old.tables.past
  pub ports : new.tables.ports ≡ old.tables.ports

-- The login of an address ends at the clock.
pub record Ends (a : ℕ) (old new : Roll) : Type 0 where
  pub bounds : KeepsBounds old new
  pub clock : new.tables.clock ≡ old.tables.clock
  pub past : new.tables.past ≡ map (ended_at a (now_of old.tables)) old.tables.past
  pub ports : (b : ℕ) → port_at b new.tables.ports ≡ (if b == a then None else port_at b old.tables.ports)

-- The logins of these addresses end at the clock.
pub record EndsAll (ids : List ℕ) (old new : Roll) : Type 0 where
  pub bounds : KeepsBounds old new
  pub clock : new.tables.clock ≡ old.tables.clock
  pub past : new.tables.past ≡ map (all_ended ids (now_of old.tables)) old.tables.past
  pub ports : (b : ℕ) → port_at b new.tables.ports ≡ (if contains b ids then None else port_at b old.tables.ports)

-- An address is granted at the clock: its N_Port is fresh, and the ENode is heard.
pub record Grants (a : ℕ) (p : NPort) (old new : Roll) : Type 0 where
  pub bounds : KeepsBounds old new
  pub clock : new.tables.clock ≡ old.tables.clock
  pub past : new.tables.past ≡ map (granted_to a p.name) old.tables.past
  pub ports : (b : ℕ) → port_at b new.tables.ports
      ≡ (if b == a then Some (fresh (now_of old.tables) a p) else option_map (heard_node p.enode (now_of old.tables)) (port_at b old.tables.ports))

-- a receive size at the name server is one that its answers can be cut at
pub record IsSize (size : ℕ) : Type 0 where
  pub least : 256 ≤ size
  pub most : size ≤ 2112
  pub words : size % 4 ≡ 0

-- What holds of each roll: ascending addresses of the pool, each port name once, sizes that answers can be cut at, no more
-- logins than the limit, a clock in range, the features of all types, and the names of live N_Ports in their addresses' past.
pub record IsSoundRoll (r : Roll) : Type 0 where
  pub ascending : AreAscending r.lowest (r.lowest + r.count) r.tables.ports
  pub names : HaveDifferentNames r.tables.ports
  pub sizes : All (λ p. IfSome p.server IsSize) r.tables.ports
  pub few : length r.tables.ports ≤ r.limit
  pub range : IfSome r.tables.clock (λ t. t < 2 ^ 63)
  pub features : All (λ p. length p.values.features ≡ 256) r.tables.ports
  pub held : (a : ℕ) (p : LivePort) → port_at a r.tables.ports ≡ Some p → past_at a r.tables.past ≡ Some (record { address = a; name = Some p.name; ended = None })

-- an N_Port is overdue at a moment, by the period of ENodes
abbrev pub is_late : ℕ → ℕ → LivePort → Bool
is_late period m p = is_silent period p.node_heard m || is_silent PORT_PERIOD p.port_heard m

-- somebody is overdue at a moment, by the period of the roll
abbrev pub has_overdue : Roll → ℕ → Bool
has_overdue r m = list_any (is_late r.period m) r.tables.ports

-- The least moment at which somebody is overdue.
pub record IsFirstOverdue (r : Roll) (m : ℕ) : Type 0 where
  pub some : has_overdue r m ≡ true
  pub before : (k : ℕ) → k < m → has_overdue r k ≡ false
