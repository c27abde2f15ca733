-- `run` over a capture without a record, and over a configuration and a capture that aren't taken.
use Rattle.std.specs.Prelude.{◌≡◌, List, [], ◌∷◌, codes, Some, None, Ok, String, refl}
use Rattle.std.specs.declared.alloc.Global.{Global}
use Rattle.fab_config.specs.Text as config
use Rattle.fab_config.specs.declared.ConfigWhy.TheVariants as faults
use Rattle.pcap_file.specs.Capture.{head_decoded}
use Rattle.pcap_file.specs.Capture as captures
use Rattle.window_records.specs.Looks as looks
use Rattle.fabric_tool.specs.Command.{Run, command}
use Rattle.fabric_tool.specs.Inputs.{HasConfig, IsOpened, HasInputs, stop_of}
use Rattle.fabric_tool.specs.Statuses.{IsComplete, IsNamed}
use Rattle.fabric_tool.specs.declared.outcome.Outcome.TheVariants as ends
use Rattle.command_examples.specs.Store.{File, CONFIG, K, K_FILE, IN_FILE, opened, names, holding, said, quiet}

abbrev pub FILES : List File
FILES = K_FILE ∷ IN_FILE ∷ []

pub value : config.decoded CONFIG ≡ Ok K
unfolding config.decoded config.line_read config.keyword_of config.zones_with config.sets_with config.activations_with config.finished
value = refl

pub has_config : HasConfig (holding FILES) (codes "K") K
has_config = record { text = CONFIG; file = refl; value = value }

pub is_opened : IsOpened (holding FILES) (codes "IN") opened
unfolding head_decoded
is_opened = record { bytes = captures.head_bytes; file = refl; head = refl; body = refl }

pub has_inputs : HasInputs names (holding FILES) K (opened ∷ [])
has_inputs = record { config = has_config; heads = (is_opened, tt) }

-- the reading of no record stops nowhere
pub no_stop : stop_of K (opened ∷ []) ≡ None
unfolding looks.looks looks.stop captures.next
no_stop = refl

module _ (words : List (String Global)) (is : command words ≡ Some (Run names)) where
  pub run_is_complete : IsComplete words (holding FILES) (holding FILES) (said []) (said [])
  run_is_complete = record {
    k = Run names;
    is = is;
    forms = record { told = refl; settings = K; opened = opened ∷ []; inputs = has_inputs; none = no_stop };
    quiet = quiet (Run names) FILES FILES [] [];
  }

  -- an empty configuration has no address of a forwarder
  pub empty_configuration_is_named : IsNamed words (ends.Config (record { line = 1; why = faults.Missing })) (holding (record { name = codes "K"; bytes = [] } ∷ [])) (holding []) (said []) (said [])
  unfolding config.decoded config.line_read config.keyword_of config.zones_with config.sets_with config.activations_with config.finished
  empty_configuration_is_named = record {
    k = Run names;
    is = is;
    told = refl;
    says = record { text = []; file = refl; value = refl };
    quiet = quiet (Run names) (record { name = codes "K"; bytes = [] } ∷ []) [] [] [];
  }
