-- How the five tables together say what is known of live N_Ports and of the addresses of the pool.
use Rattle.std.specs.Prelude.{ℕ, List, map, unwrap_or}
use Rattle.std.specs.Option.{option_map_or}
pub use Rattle.login_table.specs.declared.login.Login.{Login}
use Rattle.keepalive_clock.specs.Clock.{last_of}
use Rattle.keepalive_clock.specs.declared.voice.Voice.TheVariants.{Node, Port}
use Rattle.ct_messages.specs.Server.{Values, first_values}
use Rattle.name_server.specs.Registry.{Entry, entry_at}
use Rattle.state_change.specs.Watchers.{function_at}
use Rattle.fab_policy.specs.State.{LivePort, Tables}
use Rattle.fab_roster.specs.declared.roster.Roster.TheInside.{Inside}

-- ---- what the tables say of one login

-- the values of an address, those of its login where nothing is entered
abbrev pub values_at : ℕ → ℕ → List Entry → Values
values_at a node entries = option_map_or (λ e. e.values) (entry_at a entries) (first_values node)

-- a login with what the other tables say of it
abbrev pub live_of : Inside → Login → LivePort
live_of i l = record {
  address = l.address;
  name = l.name;
  node = l.node;
  enode = l.enode;
  server = l.server_size;
  node_heard = unwrap_or (last_of (Node l.enode) i.voices.voices) 0;
  port_heard = unwrap_or (last_of (Port l.address) i.voices.voices) 0;
  watch = function_at l.address i.watchers.watchers;
  values = values_at l.address l.node i.registry.entries;
}

-- the live N_Ports
abbrev pub ports_of : Inside → List LivePort
ports_of i = map (live_of i) i.logins.logins

-- the login of a live N_Port
abbrev pub login_of : LivePort → Login
login_of p = record { address = p.address; name = p.name; node = p.node; enode = p.enode; server_size = p.server }

-- the addresses of logins
abbrev pub addresses_of : List Login → List ℕ
addresses_of logins = map (λ l. l.address) logins

-- ---- the roll: what is known, with the bounds that its tables were made for

-- The first address of the pool and how many it has, the most logins at once, the period of ENodes in milliseconds, and what
-- is known.
pub record Roll : Type 0 where
  pub lowest : ℕ
  pub count : ℕ
  pub limit : ℕ
  pub period : ℕ
  pub tables : Tables

-- the roll that the tables of a roster make
abbrev pub roll_of : Inside → Roll
roll_of i = record {
  lowest = i.lowest;
  count = i.count;
  limit = i.limit;
  period = i.period;
  tables = record { clock = i.clock; ports = ports_of i; past = i.pool };
}
