-- What `show` prints of a journal: how many entries it has, its clock, and its live N_Ports in ascending order.
use Rattle.std.specs.Prelude.{ℕ, List, ◌++◌, length, flat_map, Option, None, Some, unwrap_or, codes, decimal}
use Rattle.fab_config.specs.Settings.{Settings}
use Rattle.fab_base.specs.Keyed.{AscendFrom}
use Rattle.fab_policy.specs.Journal.{Journal}
use Rattle.fab_policy.specs.State.{LivePort, Tables, tables_of}
use Rattle.fab_replay.specs.Rows.{row_lines}
use Rattle.fab_replay.specs.declared.rows.Row.{Row}

-- what is told of a live N_Port
abbrev pub row_of : LivePort → Row
row_of p = record {
  address = p.address;
  name = p.name;
  node_name = p.values.node_name;
  enode = p.enode;
  node_heard = p.node_heard;
  port_heard = p.port_heard;
  size = unwrap_or p.server 0;
  watch = p.watch;
  types = p.values.types;
}

-- the lines of one, and of several
unfoldable pub port_lines : LivePort → List ℕ
port_lines p = row_lines (row_of p)

abbrev pub ports_lines : List LivePort → List ℕ
ports_lines ports = flat_map port_lines ports

abbrev pub entries_line : ℕ → List ℕ
entries_line entries = codes "entries " ++ decimal entries ++ codes "\n"

abbrev pub clock_line : Option ℕ → List ℕ
clock_line None = codes "clock none\n"
clock_line (Some t) = codes "clock " ++ decimal t ++ codes "\n"

-- the lines of so many entries that left these tables
abbrev pub shown_by : ℕ → Tables → List ℕ
shown_by entries T = entries_line entries ++ clock_line T.clock ++ ports_lines T.ports

-- the lines of a journal
abbrev pub shown : Settings → Journal → List ℕ
shown c J = shown_by (length J) (tables_of c J)

-- N_Ports by ascending address: the tables of each journal are so, and each state from which a fabric can go on.
abbrev pub AreInOrder : List LivePort → Type 0
AreInOrder ports = AscendFrom (λ p. p.address) 0 ports
