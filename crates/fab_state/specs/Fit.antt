-- From which seams a fabric can go on. Each test is a relation over the seam, the configuration and the number of ports.
use Rattle.std.specs.Prelude.{◌≡◌, ℕ, ◌+◌, ◌*◌, ◌-◌, ◌%◌, ◌<◌, ◌≤◌, ◌^◌, ◌⊎◌, false, true, List, [], ◌∷◌, length, map, Option, Some, None, IfSome, IsSome, slice_get}
use Rattle.std.specs.List.{AllByRecursion}
use Rattle.fab_base.specs.Fabric.{Past, same_enode}
use Rattle.fab_config.specs.Settings.{Settings}
use Rattle.ct_messages.specs.Server.{Values}
use Rattle.fab_policy.specs.Logins.{pool}
use Rattle.fab_policy.specs.Outputs.{State}
use Rattle.fab_policy.specs.State.{LivePort, Tables, is_overdue, now_of, port_at}
use Rattle.fab_policy.specs.Written.{IsNew}
use Rattle.fab_pieces.specs.Restored.{CanRestore}
use Rattle.fab_pieces.specs.Seam.{AreBelow, IsRangedSeam, Seam}
use Rattle.fab_pieces.specs.Sound.{IsFreed, IsServed}

-- ---- the head

-- nobody had the address
abbrev pub IsUnused : Past → Type 0
IsUnused q = (q.name ≡ None) × (q.ended ≡ None)

-- before the first tick: nobody is logged in or was, and no state changes were sent
pub record IsFirst (S : State) : Type 0 where
  pub ports : S.tables.ports ≡ []
  pub rscns : S.rscns ≡ 0
  pub past : AllByRecursion IsUnused S.tables.past

-- A clock is a multiple of the window, at which captures can have moments. The last advertisements were at it or before, less than
-- a period ago.
pub record IsClock (c : Settings) (t last : ℕ) : Type 0 where
  pub start : t % c.window ≡ 0
  pub range : t < 2 ^ 43
  pub least : last ≤ t
  pub most : t < last + c.period

-- clock and advertisements are there together
abbrev pub FitsClock : Settings → State → Option ℕ → Option ℕ → Type 0
FitsClock c S None None = IsFirst S
FitsClock c S None (Some last) = ⊥
FitsClock c S (Some t) None = ⊥
FitsClock c S (Some t) (Some last) = IsClock c t last

-- ---- addresses

-- the last login ended by now; and nobody holds the address but who is logged in
pub record FitsPast (T : Tables) (q : Past) : Type 0 where
  pub ended : IfSome q.ended (λ t. t ≤ now_of T)
  pub freed : IsFreed q ⊎ IsSome (port_at q.address T.ports)

-- ---- logins

-- the past of an address says that a name holds it
abbrev pub IsHeldBy : ℕ → Option Past → Type 0
IsHeldBy name None = ⊥
IsHeldBy name (Some q) = (q.name ≡ Some name) × (q.ended ≡ None)

-- N_Ports of the same ENode say that it was heard at the same moment
abbrev pub SharesVoice : LivePort → List LivePort → Type 0
SharesVoice p ports = AllByRecursion (λ q. same_enode p.enode q.enode ≡ true → p.node_heard ≡ q.node_heard) ports

-- the features of 256 types, four bits each, and symbolic names of a byte's length
pub record IsKept (v : Values) : Type 0 where
  pub count : length v.features ≡ 256
  pub features : AreBelow 16 v.features
  pub symbol : length v.symbol ≤ 255
  pub node_symbol : length v.node_symbol ≤ 255

-- A login of a forwarder of n ports, beside those behind it. Its address isn't below the least that it may be, and is held by its
-- name; no later one has its name, and none says something else of its ENode.
pub record FitsLogin (c : Settings) (n : ℕ) (T : Tables) (least : ℕ) (p : LivePort) (behind : List LivePort) : Type 0 where
  pub order : least ≤ p.address
  pub lowest : c.domain * 65536 + 256 ≤ p.address
  pub holder : IsHeldBy p.name (slice_get T.past (p.address - (c.domain * 65536 + 256)))
  pub name : IsNew p behind
  pub voice : SharesVoice p behind
  pub first : 1 ≤ p.enode.port
  pub last : p.enode.port ≤ n
  pub node_heard : p.node_heard ≤ now_of T
  pub port_heard : p.port_heard ≤ now_of T
  pub quiet : is_overdue c (now_of T) p ≡ false
  pub served : IsServed p
  pub kept : IsKept p.values

abbrev pub AreLogins : Settings → ℕ → Tables → ℕ → List LivePort → Type 0
AreLogins c n T least [] = Unit {0}
AreLogins c n T least (p ∷ behind) = FitsLogin c n T least p behind × AreLogins c n T (p.address + 1) behind

-- ---- all of it

-- A fabric of n ports can go on from a seam.
pub record IsFit (c : Settings) (n : ℕ) (s : Seam) : Type 0 where
  pub clock : FitsClock c s.state s.state.tables.clock s.state.advertised
  pub rscns : s.state.rscns < 65535
  pub order : now_of s.state.tables ≤ s.greatest
  pub ports : length s.nexts ≡ n
  pub places : map (λ q. q.address) s.state.tables.past ≡ pool c
  pub past : AllByRecursion (FitsPast s.state.tables) s.state.tables.past
  pub few : length s.state.tables.ports ≤ c.limit
  pub logins : AreLogins c n s.state.tables (c.domain * 65536 + 256) s.state.tables.ports

-- A fabric can be made of a seam that fits, whose numbers are in the ranges of their types.
abbrev pub FitCanRestore : Type 0
FitCanRestore = (c : Settings) (n : ℕ) (s : Seam) → IsFit c n s → IsRangedSeam s → CanRestore c n s
