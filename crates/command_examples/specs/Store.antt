-- A small store in memory, and what holds of each command where no fault is counted.
use Rattle.std.specs.Prelude.{◌≡◌, ℕ, true, false, if◌then◌else◌, List, [], ◌∷◌, codes, Option, Some, None, String, refl}
use Rattle.std.specs.Str.{bytes_eq}
use Rattle.std.specs.declared.alloc.Global.{Global}
use Rattle.std.proofs.Common.{arith}
use Rattle.fab_base.specs.Ending.{RoseIn}
use Rattle.fab_base.specs.Seen.{Seen, Rose}
use Rattle.fab_base.specs.Sunk.{Sunk}
use Rattle.fab_config.specs.Settings.{Settings}
use Rattle.pcap_file.specs.Capture.{head_bytes}
use Rattle.window_records.specs.Looks.{Opened}
use Rattle.run_files.specs.Names.{Among}
use Rattle.fabric_tool.specs.Command.{RunNames, Command, command}
use Rattle.fabric_tool.specs.Ends.{inputs, outputs}
use Rattle.fabric_tool.specs.Statuses.{IsQuiet, IsNamed, Says}
use Rattle.fabric_tool.specs.declared.outcome.Outcome.{Outcome}

-- ---- files

-- a name and what its file holds
pub record File : Type 0 where
  pub name : List ℕ
  pub bytes : List ℕ

-- the bytes under a name, or none
abbrev pub under : List File → List ℕ → Option (List ℕ)
under [] m = None
under (f ∷ files) m = if bytes_eq f.name m then Some f.bytes else under files m

-- a depot with these files and no fault so far
abbrev pub holding : List File → Seen
holding files = record {
  told = true;
  knows = λ m. true;
  input = λ s. false;
  output = λ s. false;
  name = λ s. [];
  file = under files;
  left = λ s. [];
  read_faults = λ m. 0;
  write_faults = λ m. 0;
}

-- a sink to which this was written
abbrev pub said : List ℕ → Sunk
said bytes = record { told = true; written = bytes; faults = 0 }

-- ---- no fault

risen : Rose 0 0 → ⊥
risen h = absurd (omega (arith, h))

none_rose : (names : List (List ℕ)) → RoseIn (Among names) (λ m. 0) (λ m. 0) → ⊥
none_rose names rose = risen rose.2

-- of no command a fault was counted
pub quiet : (k : Command) (before after : List File) (front back : List ℕ) → IsQuiet k (holding before) (holding after) (said front) (said back)
quiet k before after front back = record { reads = none_rose (inputs k); writes = none_rose (outputs k); sink = risen }

-- an outcome that the files name is that of words of this command
pub named : (words : List (String Global)) (k : Command) (outcome : Outcome) (files : List File) → command words ≡ Some k → Says k (holding files) outcome → IsNamed words outcome (holding files) (holding files) (said []) (said [])
named words k outcome files is says = record { k = k; is = is; told = refl; says = says; quiet = quiet k files files [] [] }

-- ---- a configuration, and a capture without a record

abbrev pub CONFIG : List ℕ
CONFIG = codes "fcf-mac 00:05:1e:00:00:02\nvlan 100\n"

-- the defaults
abbrev pub K : Settings
K = record {
  switch = 0x100000051e000002;
  fcf_mac = 0x00 ∷ 0x05 ∷ 0x1e ∷ 0 ∷ 0 ∷ 2 ∷ [];
  fc_map = 0x0efc00;
  vlan = 100;
  domain = 1;
  pool = 256;
  priority = 128;
  period = 8000;
  window = 100;
  limit = 240;
  zones = [];
  sets = [];
  activations = [];
}

abbrev pub K_FILE : File
K_FILE = record { name = codes "K"; bytes = CONFIG }

abbrev pub IN_FILE : File
IN_FILE = record { name = codes "IN"; bytes = head_bytes }

-- the capture behind its head
abbrev pub opened : Opened
opened = record { head = record { big = false; nano = false }; body = [] }

-- the words of `run` and `replay` over one port
abbrev pub names : RunNames
names = record { config = codes "K"; journal = codes "J"; ins = codes "IN" ∷ []; outs = codes "OUT" ∷ [] }
