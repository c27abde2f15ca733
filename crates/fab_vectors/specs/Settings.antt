-- The configuration of a load.
use Rattle.std.specs.Prelude.{ℕ, ◌++◌, List, [], codes, decimal}
use Rattle.fab_config.specs.Settings as config
use Rattle.fab_config.specs.Written as text
use Rattle.fab_config.specs.declared.Zone.{Zone}
use Rattle.fab_vectors.specs.Names.{numbered, port_name, FORWARDER}

-- the names of one login of each of the 8 ports
unfoldable pub members : ℕ → List ℕ
members login = numbered (λ port. port_name port login) 1 8

-- zone zi lists login i of each port
abbrev pub zone : ℕ → Zone
zone login = record { name = codes "z" ++ decimal login; members = members login }

-- a zone for each of the 30 logins that a port has
unfoldable pub zones : List Zone
zones = numbered zone 0 30

abbrev pub settings : config.Settings
settings = record {
  switch = 0x100000051e000002;
  fcf_mac = FORWARDER;
  fc_map = 0x0efc00;
  vlan = 100;
  domain = 1;
  pool = 256;
  priority = 128;
  period = 8000;
  window = 100;
  limit = 240;
  zones = zones;
  sets = [];
  activations = [];
}

-- the text of the configuration
abbrev pub config_text : List ℕ
config_text = text.written settings
