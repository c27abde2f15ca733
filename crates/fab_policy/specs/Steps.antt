-- What one more entry changes: what a journal with one more entry says follows from what the journal said.
use Rattle.std.specs.Prelude.{◌≡◌, ℕ, List, [], ◌∷◌, Option, Some, None, option_and_then, option_map, if◌then◌else◌, unwrap_or, map, filter_map, ◌+◌, ◌*◌, ◌<◌, ◌≤◌, ◌⊎◌}
use Rattle.std.specs.List.{All}
use Rattle.fab_base.specs.Fabric.{Past}
use Rattle.fab_base.specs.Keyed.{AscendFrom}
use Rattle.fab_base.specs.declared.values.Enode.{Enode}
use Rattle.fab_config.specs.Settings.{Settings}
use Rattle.ct_messages.specs.Ct.{Ask}
use Rattle.fab_policy.specs.Journal.{Journal, moment_of}
use Rattle.fab_policy.specs.Logins.{NPort, login, grants, n_port, ends, says_server, says_watch, hears_node, hears_port, pool}
use Rattle.fab_policy.specs.Registered.{registration, says_node, says_types, says_feature, says_symbol, says_node_symbol}
use Rattle.ct_messages.specs.Server.{Values, first_values}
use Rattle.fab_policy.specs.State.{LivePort, Tables, tables_of, live_port, port_at}
use Rattle.fab_policy.specs.declared.event.Event.{Event}

-- ---- single questions

-- An entry that grants an address makes its login, one that ends the login leaves none, and any other leaves it.
abbrev pub login_after : ℕ → Event → Option NPort → Option NPort
login_after a e before = if grants a e then Some (n_port e) else option_and_then (λ p. if ends a p.enode e then None else Some p) before

abbrev pub StepsLogin : Type 0
StepsLogin = (a : ℕ) (e : Event) (J : Journal) → login a (e ∷ J) ≡ login_after a e (login a J)

-- ---- a live N_Port

-- the N_Port of a grant, at the clock of its entry
abbrev pub fresh : ℕ → ℕ → NPort → LivePort
fresh at a p = record {
  address = a;
  name = p.name;
  node = p.node;
  enode = p.enode;
  server = None;
  node_heard = at;
  port_heard = at;
  watch = 0;
  values = first_values p.node;
}

-- what a registration that may be there says of a value, or else what it was
abbrev pub said : {X : Type 0} → Option Ask → (Ask → Option X) → X → X
said asked says before = unwrap_or (option_and_then says asked) before

-- the features of the types from t on
abbrev pub features_after : Option Ask → ℕ → List ℕ → List ℕ
features_after asked t [] = []
features_after asked t (f ∷ more) = said asked (says_feature t) f ∷ features_after asked (t + 1) more

-- the values of an N_Port whose login gave this node name, after a registration that may be there
abbrev pub values_after : ℕ → Option Ask → Values → Values
values_after first asked v = record {
  node_name = said asked (says_node first) v.node_name;
  types = said asked says_types v.types;
  features = features_after asked 0 v.features;
  symbol = said asked says_symbol v.symbol;
  node_symbol = said asked says_node_symbol v.node_symbol;
}

-- an N_Port that stays, after an entry at this clock
abbrev pub touched : ℕ → ℕ → Event → LivePort → LivePort
touched at a e p = record {
  address = a;
  name = p.name;
  node = p.node;
  enode = p.enode;
  server = unwrap_or (says_server a e) p.server;
  node_heard = if hears_node p.enode e then at else p.node_heard;
  port_heard = if hears_port a e then at else p.port_heard;
  watch = unwrap_or (says_watch a e) p.watch;
  values = values_after p.node (registration a e) p.values;
}

-- the live N_Port of an address after an entry at this clock
abbrev pub port_after : ℕ → ℕ → Event → Option LivePort → Option LivePort
port_after at a e before =
    if grants a e then Some (fresh at a (n_port e)) else option_and_then (λ p. if ends a p.enode e then None else Some (touched at a e p)) before

-- ---- the past of an address

-- the past of an address after an entry at this clock, which its ENode holds or nobody
abbrev pub past_after : ℕ → ℕ → Event → Option Enode → Past → Past
past_after at a e holder past =
    if grants a e then record { address = a; name = Some (n_port e).name; ended = None }
    else unwrap_or (option_map (λ x. if ends a x e then record { address = a; name = past.name; ended = Some at } else past) holder) past

-- ---- the tables

abbrev pub clock_after : Event → Option ℕ → Option ℕ
clock_after e before = unwrap_or (option_map Some (moment_of e)) before

-- what the tables are after an entry
abbrev pub after : Settings → Tables → Event → Tables
after c T e =
    let at = unwrap_or (clock_after e T.clock) 0 in
    record {
      clock = clock_after e T.clock;
      ports = filter_map (λ a. port_after at a e (port_at a T.ports)) (pool c);
      past = map (λ p. past_after at p.address e (option_map (λ q. q.enode) (port_at p.address T.ports)) p) T.past;
    }

-- What a journal with one more entry says is what the tables are after that entry.
abbrev pub Steps : Type 0
Steps = (c : Settings) (e : Event) (J : Journal) → tables_of c (e ∷ J) ≡ after c (tables_of c J) e

-- N_Ports in strictly ascending order of addresses that aren't below the first bound and are below the second
abbrev pub AreAscending : ℕ → ℕ → List LivePort → Type 0
AreAscending from to ports = AscendFrom (λ p. p.address) from ports × All (λ p. p.address < to) ports

-- N_Ports of the pool, in that order
abbrev pub InPool : Settings → List LivePort → Type 0
InPool c ports = AreAscending (c.domain * 65536 + 256) (c.domain * 65536 + 256 + c.pool) ports

-- The N_Port that the tables of a journal have for an address is the live one that the journal has; outside the pool there is none.
abbrev pub LivesAreFound : Type 0
LivesAreFound = (c : Settings) (J : Journal) (a : ℕ) → c.domain * 65536 + 256 ≤ a → a < c.domain * 65536 + 256 + c.pool → port_at a (tables_of c J).ports ≡ live_port a J

abbrev pub OthersAreNone : Type 0
OthersAreNone = (c : Settings) (J : Journal) (a : ℕ) → (a < c.domain * 65536 + 256) ⊎ (c.domain * 65536 + 256 + c.pool ≤ a) → port_at a (tables_of c J).ports ≡ None

-- Ascending N_Ports of the pool are the ones that are found address by address.
abbrev pub FoundByAddress : Type 0
FoundByAddress = (c : Settings) (ports : List LivePort) (find : ℕ → Option LivePort) →
    InPool c ports →
    ((a : ℕ) → c.domain * 65536 + 256 ≤ a → a < c.domain * 65536 + 256 + c.pool → port_at a ports ≡ find a) →
    ports ≡ filter_map find (pool c)
