-- What holds of each state that a session goes on from: what the tables of a fabric keep of each other, so that they can be
-- made of the state again.
use Rattle.std.specs.Prelude.{◌≡◌, ℕ, ◌%◌, ◌<◌, ◌≤◌, ◌⊎◌, true, List, [], length, map, Some, None, is_some, IsSome, IfSome}
use Rattle.fab_base.specs.Fabric.{Past, past_at, same_enode}
use Rattle.fab_config.specs.Settings.{Settings}
use Rattle.fab_policy.specs.Journal.{Journal, moment_of}
use Rattle.pcap_file.specs.declared.Record.{Record}
use Rattle.fab_policy.specs.Legal.{HasPorts, IsRightEntry, Legal, Run}
use Rattle.fab_policy.specs.Logins.{pool}
use Rattle.fab_policy.specs.Outputs.{State, state_of}
use Rattle.fab_policy.specs.Standing.{Contents, Stands, state_after}
use Rattle.fab_policy.specs.State.{LivePort, Tables, now_of, port_at}
use Rattle.fab_policy.specs.Steps.{after}
use Rattle.fab_policy.specs.Written.{IsSound}
use Rattle.fab_policy.specs.declared.event.Event.{Event}
use Rattle.fab_states.specs.Runs.{RunFrom}
use Rattle.fab_states.specs.States.{LegalFrom, state_on}

-- each live N_Port is so
abbrev pub EachPort : Tables → (LivePort → Type 0) → Type 0
EachPort T is = (a : ℕ) (p : LivePort) → port_at a T.ports ≡ Some p → is p

-- N_Ports behind one ENode share its voice: when it was last heard is the same for all of them
abbrev pub ShareVoices : Tables → Type 0
ShareVoices T = (a b : ℕ) (p q : LivePort) → port_at a T.ports ≡ Some p → port_at b T.ports ≡ Some q → same_enode p.enode q.enode ≡ true → p.node_heard ≡ q.node_heard

-- the past of the address of a live N_Port says that it holds it
abbrev pub IsHolder : Tables → LivePort → Type 0
IsHolder T p = past_at p.address T.past ≡ Some (record { address = p.address; name = Some p.name; ended = None })

-- nobody had the address, or its last login ended
abbrev pub IsFreed : Past → Type 0
IsFreed q = ((q.name ≡ None) × (q.ended ≡ None)) ⊎ (IsSome q.name × IsSome q.ended)

-- where nobody is live, the past says so
abbrev pub AreFreed : Tables → Type 0
AreFreed T = (a : ℕ) (q : Past) → port_at a T.ports ≡ None → past_at a T.past ≡ Some q → IsFreed q

-- What holds of a state: its tables are sound, the addresses are those of the pool and say who holds them, N_Ports share the
-- voices of their ENodes and have the features of all types, and before the first tick it is the first state.
pub record IsSoundState (c : Settings) (S : State) : Type 0 where
  pub tables : IsSound c S.tables
  pub places : map (λ p. p.address) S.tables.past ≡ pool c
  pub held : EachPort S.tables (IsHolder S.tables)
  pub freed : AreFreed S.tables
  pub voices : ShareVoices S.tables
  pub features : EachPort S.tables (λ p. length p.values.features ≡ 256)
  pub begun : is_some S.advertised ≡ is_some S.tables.clock
  pub first : S.tables.clock ≡ None → S ≡ state_of c []
  pub rscns : S.rscns < 65535

-- no N_Port was heard, and no login ended, after the clock
pub record IsTimely (T : Tables) : Type 0 where
  pub heard : EachPort T (λ p. (p.node_heard ≤ now_of T) × (p.port_heard ≤ now_of T))
  pub ended : (a : ℕ) (q : Past) → past_at a T.past ≡ Some q → IfSome q.ended (λ t. t ≤ now_of T)

-- each live N_Port is behind one of n ports
abbrev pub AreBehind : ℕ → Tables → Type 0
AreBehind n T = EachPort T (λ p. (1 ≤ p.enode.port) × (p.enode.port ≤ n))

-- a receive size that answers can be cut at
abbrev pub IsCutSize : ℕ → Type 0
IsCutSize size = (256 ≤ size) × (size ≤ 2112) × (size % 4 ≡ 0)

-- a login to the name server has such a size, and a watcher one of the functions 1 to 3
abbrev pub IsServed : LivePort → Type 0
IsServed p = IfSome p.server IsCutSize × (p.watch ≤ 3)

-- ---- the laws

-- It holds of the first state, and each right entry keeps it.
abbrev pub FirstIsSound : Type 0
FirstIsSound = (c : Settings) → IsSoundState c (state_of c [])

abbrev pub EntriesKeepSound : Type 0
EntriesKeepSound = (c : Settings) (S : State) (e : Event) → IsSoundState c S → IsRightEntry c S.tables e → IsSoundState c (state_after c S e)

-- Each legal piece keeps it.
abbrev pub PiecesKeepSound : Type 0
PiecesKeepSound = (c : Settings) (S : State) (K : Journal) → IsSoundState c S → LegalFrom c S K → IsSoundState c (state_on c S K)

-- It holds of what each legal journal says.
abbrev pub JournalsAreSound : Type 0
JournalsAreSound = (c : Settings) (J : Journal) → Legal c J → IsSoundState c (state_of c J)

-- An entry at which the clock doesn't go back keeps tables timely, and so does each run; a legal piece alone may have a tick that goes
-- back.
abbrev pub EntriesKeepTimely : Type 0
EntriesKeepTimely = (c : Settings) (T : Tables) (e : Event) → IsTimely T → IfSome (moment_of e) (λ m. now_of T ≤ m) → IsTimely (after c T e)

abbrev pub RunsKeepTimely : Type 0
RunsKeepTimely = (c : Settings) (S : State) (firsts : List ℕ) (ins : List (List Record)) (K : Journal) → IsTimely S.tables → RunFrom c S firsts ins K → IsTimely (state_on c S K).tables

abbrev pub RunsAreTimely : Type 0
RunsAreTimely = (c : Settings) (ins : List (List Record)) (J : Journal) → Run c ins J → IsTimely (state_of c J).tables

-- A fabric that is made of a state, and has done nothing since, stands for each journal that says that state.
abbrev pub RestoredStands : Type 0
RestoredStands = (F : Contents) (J : Journal) → F.state ≡ state_of F.settings J → F.events ≡ [] → F.outs ≡ [] → Stands F J

-- Whoever is live is behind one of the ports.
abbrev pub PiecesKeepPorts : Type 0
PiecesKeepPorts = (c : Settings) (n : ℕ) (S : State) (K : Journal) → AreBehind n S.tables → HasPorts n K → AreBehind n (state_on c S K).tables

abbrev pub JournalsHavePorts : Type 0
JournalsHavePorts = (c : Settings) (n : ℕ) (J : Journal) → HasPorts n J → AreBehind n (state_of c J).tables

-- Whoever is logged in at the name server has a size that answers can be cut at, and whoever watches a function.
abbrev pub EntriesKeepServed : Type 0
EntriesKeepServed = (c : Settings) (T : Tables) (e : Event) → EachPort T IsServed → IsRightEntry c T e → EachPort (after c T e) IsServed

abbrev pub PiecesKeepServed : Type 0
PiecesKeepServed = (c : Settings) (S : State) (K : Journal) → EachPort S.tables IsServed → LegalFrom c S K → EachPort (state_on c S K).tables IsServed

abbrev pub JournalsAreServed : Type 0
JournalsAreServed = (c : Settings) (J : Journal) → Legal c J → EachPort (state_of c J).tables IsServed
