-- How a roll is made of a seam: first who had each address, then who is logged in. No public clause cites this module.
use Rattle.std.specs.Prelude.{◌≡◌, ℕ, ◌<◌, ◌≤◌, ◌^◌, ◌==◌, if◌then◌else◌, false, List, [], map, length, Option, Some, None, IfSome, IsSome, IsTrue}
use Rattle.std.specs.List.{AllByRecursion, list_any}
use Rattle.fab_base.specs.Counting.{counting}
use Rattle.fab_base.specs.Fabric.{Past, past_at}
use Rattle.fab_config.specs.Settings.{Settings}
use Rattle.fab_policy.specs.Free.{is_free}
use Rattle.fab_policy.specs.State.{LivePort, now_of, port_at}
use Rattle.fab_roster.specs.Changes.{IsSize, KeepsBounds}
use Rattle.fab_roster.specs.Roll.{Roll}
use Rattle.fab_pieces.specs.Seam.{Seam}
use Rattle.fab_state.specs.Fit.{IsFit, IsKept}
use Rattle.fc_addresses.specs.Pool.{addresses, ended_at, held, never_had, unused}
use Rattle.forward_core.specs.Fabric.{empty_roll}

-- ---- pasts

-- the past of an address that a login had until it ended; an address that one holds still is as one that nobody had
abbrev pub past_left : ℕ → Option ℕ → Option ℕ → Past
past_left a (Some name) (Some end) = ended_at end (held a name)
past_left a (Some name) None = never_had a
past_left a None ended = never_had a

abbrev pub without_holder : Past → Past
without_holder q = past_left q.address q.name q.ended

-- the same, or held by the N_Port that has the address
abbrev pub past_with : Past → Option LivePort → Past
past_with q None = without_holder q
past_with q (Some p) = held q.address p.name

abbrev pub held_again : List LivePort → Past → Past
held_again ports q = past_with q (port_at q.address ports)

-- ---- steps

-- Nobody had any address of a pool yet, and pasts of all its addresses are at hand, none of which ended after the clock.
pub record AwaitsPasts (past : List Past) (r : Roll) : Type 0 where
  pub first : ℕ
  pub count : ℕ
  pub places : map (λ q. q.address) past ≡ counting first count
  pub unused_yet : r.tables.past ≡ unused first count
  pub ended : AllByRecursion (λ q. IfSome q.ended (λ t. t ≤ now_of r.tables)) past

-- The past of an address is there, if its login ended.
pub record AddsPast (q : Past) (old new : Roll) : Type 0 where
  pub bounds : KeepsBounds old new
  pub clock : new.tables.clock ≡ old.tables.clock
  pub ports : new.tables.ports ≡ old.tables.ports
  pub places : addresses new.tables.past ≡ addresses old.tables.past
  pub past : (b : ℕ) → past_at b new.tables.past ≡ (if q.address == b then Some (without_holder q) else past_at b old.tables.past)

-- All are.
pub record AddsPasts (past : List Past) (old new : Roll) : Type 0 where
  pub bounds : KeepsBounds old new
  pub clock : new.tables.clock ≡ old.tables.clock
  pub ports : new.tables.ports ≡ old.tables.ports
  pub past_is : new.tables.past ≡ map without_holder past

-- An N_Port can be made live again.
pub record CanAdd (p : LivePort) (r : Roll) : Type 0 where
  pub clock : IsSome r.tables.clock
  pub free : IsTrue (is_free r.tables (record { flogi = false; enode = p.enode; name = p.name }) p.address)
  pub name : list_any (λ q. q.name == p.name) r.tables.ports ≡ false
  pub room : length r.tables.ports < r.limit
  pub size : IfSome p.server IsSize
  pub node : p.node_heard < 2 ^ 63
  pub port : p.port_heard < 2 ^ 63
  pub watch : p.watch ≤ 3
  pub kept : IsKept p.values

-- The clock and the pasts of a seam that fits are there, and nobody is logged in yet.
pub record AwaitsPorts (s : Seam) (r : Roll) : Type 0 where
  pub settings : Settings
  pub count : ℕ
  pub fit : IsFit settings count s
  pub limit : r.limit ≡ settings.limit
  pub runs : IsSome s.state.tables.clock
  pub clock : r.tables.clock ≡ s.state.tables.clock
  pub ports : r.tables.ports ≡ []
  pub past : r.tables.past ≡ map without_holder s.state.tables.past

-- All are logged in, and hold their addresses.
pub record AddsPorts (s : Seam) (old new : Roll) : Type 0 where
  pub bounds : KeepsBounds old new
  pub clock : new.tables.clock ≡ old.tables.clock
  pub ports : new.tables.ports ≡ s.state.tables.ports
  pub past : new.tables.past ≡ map (held_again s.state.tables.ports) s.state.tables.past

-- The roll is that of a configuration before the first tick, and a fabric of so many ports can go on from the seam.
pub record AwaitsSeam (s : Seam) (r : Roll) : Type 0 where
  pub settings : Settings
  pub count : ℕ
  pub fit : IsFit settings count s
  pub empty : r ≡ empty_roll settings
