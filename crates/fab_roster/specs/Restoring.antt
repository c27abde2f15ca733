-- How a roll is made again, address by address.
use Rattle.std.specs.Prelude.{◌≡◌, ℕ, ◌==◌, if◌then◌else◌, map, Some, option_map}
use Rattle.fab_base.specs.Fabric.{past_at}
use Rattle.fab_base.specs.declared.values.Enode.{Enode}
use Rattle.ct_messages.specs.Server.{Values}
use Rattle.fc_addresses.specs.Pool.{HadAddress, addresses}
use Rattle.fab_policy.specs.Changes.{granted_to, heard_node, heard_port}
use Rattle.fab_policy.specs.State.{LivePort, port_at}
use Rattle.fab_roster.specs.Changes.{KeepsBounds}
use Rattle.fab_roster.specs.Roll.{Login, Roll}

-- a live N_Port with this login, and what else is kept of it
abbrev pub port_of : Login → ℕ → ℕ → ℕ → Values → LivePort
port_of l node port watch values = record {
  address = l.address;
  name = l.name;
  node = l.node;
  enode = l.enode;
  server = l.server_size;
  node_heard = node;
  port_heard = port;
  watch = watch;
  values = values;
}

-- the ENode of an address was heard at one moment, and the address at another
abbrev pub heard_again : ℕ → Enode → ℕ → ℕ → LivePort → LivePort
heard_again a x node port p = heard_port a port (heard_node x node p)

-- the N_Port of an address has these values
abbrev pub with_kept : ℕ → Values → LivePort → LivePort
with_kept a values p = if p.address == a then record p { values = values } else p

-- A login of the name had an address until a moment, and nothing else changes.
pub record Had (a name end : ℕ) (old new : Roll) : Type 0 where
  pub bounds : KeepsBounds old new
  pub clock : new.tables.clock ≡ old.tables.clock
  pub past : HadAddress a name end old.tables.past new.tables.past
  pub places : addresses new.tables.past ≡ addresses old.tables.past
  pub ports : new.tables.ports ≡ old.tables.ports

-- An N_Port is there again, and its ENode is heard when it was.
pub record Restores (p : LivePort) (old new : Roll) : Type 0 where
  pub bounds : KeepsBounds old new
  pub clock : new.tables.clock ≡ old.tables.clock
  pub past : new.tables.past ≡ map (granted_to p.address p.name) old.tables.past
  pub ports : (b : ℕ) → port_at b new.tables.ports ≡ (if b == p.address then Some p else option_map (heard_node p.enode p.node_heard) (port_at b old.tables.ports))
