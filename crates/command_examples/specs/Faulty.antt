-- Files that aren't taken: a configuration without an address, and captures that are empty, cut, or too long.
use Rattle.std.specs.Prelude.{ℕ, List, [], ◌∷◌, ◌++◌, codes, refl}
use Rattle.fab_config.specs.Text as config
use Rattle.fab_config.specs.declared.ConfigFault.{ConfigFault}
use Rattle.fab_config.specs.declared.ConfigWhy.TheVariants as why
use Rattle.pcap_file.specs.Capture.{head_bytes, record_bytes}
use Rattle.fabric_tool.specs.Inputs.{HasFault}
use Rattle.command_examples.specs.Store.{File, K_FILE, holding}

abbrev pub file : List ℕ → List ℕ → File
file name bytes = record { name = name; bytes = bytes }

-- an empty configuration, and its fault
abbrev pub NO_CONFIG : List File
NO_CONFIG = file (codes "K") [] ∷ []

abbrev pub missing : ConfigFault
missing = record { line = 1; why = why.Missing }

pub has_fault : HasFault (holding NO_CONFIG) (codes "K") missing
unfolding config.decoded config.line_read config.keyword_of config.zones_with config.sets_with config.activations_with config.finished
has_fault = record { text = []; file = refl; value = refl }

-- one byte behind the head of a capture
abbrev pub CUT : List ℕ
CUT = head_bytes ++ 0 ∷ []

-- two records of an empty frame, the second of them more than six hours behind the first
abbrev pub LONG : List ℕ
LONG = head_bytes ++ record_bytes 0 [] ++ record_bytes 21600200 []

-- the configuration, and a capture of these bytes
abbrev pub with_input : List ℕ → List File
with_input bytes = K_FILE ∷ file (codes "IN") bytes ∷ []
