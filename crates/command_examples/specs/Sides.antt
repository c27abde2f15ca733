-- `snoop` over two captures without a record, and `enode` over one.
use Rattle.std.specs.Prelude.{◌≡◌, List, [], ◌∷◌, codes, Some, String, refl}
use Rattle.std.specs.declared.alloc.Global.{Global}
use Rattle.pcap_file.specs.Capture as captures
use Rattle.pcap_file.specs.Capture.{head_decoded, head_bytes}
use Rattle.pcap_file.specs.Captures.{capture_by}
use Rattle.enode_core.specs.declared.node.Phase.TheVariants as phase
use Rattle.fabric_tool.specs.Command.{SnoopNames, EnodeNames, Snoop, Enode, command}
use Rattle.fabric_tool.specs.Statuses.{IsComplete, IsNamed}
use Rattle.fabric_tool.specs.declared.outcome.Outcome.TheVariants as ends
use Rattle.command_examples.specs.Store.{File, CONFIG, K, K_FILE, IN_FILE, holding, said, quiet}
use Rattle.command_examples.specs.Running.{value}

abbrev pub FILES : List File
FILES = K_FILE ∷ IN_FILE ∷ record { name = codes "IN2"; bytes = head_bytes } ∷ []

abbrev pub sides : SnoopNames
sides = record { config = codes "K"; ins = codes "IN" ∷ codes "IN2" ∷ []; outs = codes "OUT" ∷ codes "OUT2" ∷ [] }

abbrev pub node : EnodeNames
node = record {
  start = 0;
  own = record { mac = 0 ∷ 0x1b ∷ 0x21 ∷ 0 ∷ 0 ∷ 0x0a ∷ []; name = 0x2000001b2100000a; node = 0x1000001b2100000a };
  from = codes "IN";
  to = codes "OUT";
}

module _ (words : List (String Global)) where
  pub snoop_is_complete : command words ≡ Some (Snoop sides) → IsComplete words (holding FILES) (holding FILES) (said []) (said [])
  unfolding capture_by head_decoded captures.next
  snoop_is_complete is = record {
    k = Snoop sides;
    is = is;
    forms = record { told = refl; settings = K; config = record { text = CONFIG; file = refl; value = value }; came = []; crosses = refl };
    quiet = quiet (Snoop sides) FILES FILES [] [];
  }

  -- no frame passed, and none was dropped
  pub snoop_is_named : command words ≡ Some (Snoop sides) → IsNamed words (ends.Bridged 0 0) (holding FILES) (holding FILES) (said []) (said [])
  unfolding capture_by head_decoded captures.next
  snoop_is_named is = record {
    k = Snoop sides;
    is = is;
    told = refl;
    says = record { settings = K; config = record { text = CONFIG; file = refl; value = value }; came = []; crosses = refl; passed_ = refl; dropped_ = refl };
    quiet = quiet (Snoop sides) FILES FILES [] [];
  }

  pub enode_is_complete : command words ≡ Some (Enode node) → IsComplete words (holding FILES) (holding FILES) (said []) (said [])
  unfolding capture_by head_decoded captures.next
  enode_is_complete is = record {
    k = Enode node;
    is = is;
    forms = record { told = refl; bytes = head_bytes; records = []; file = refl; taken = refl };
    quiet = quiet (Enode node) FILES FILES [] [];
  }

  -- nobody answered: the node asks for VLANs still
  pub enode_is_named : command words ≡ Some (Enode node) → IsNamed words (ends.Stood phase.Asking) (holding FILES) (holding FILES) (said []) (said [])
  unfolding capture_by head_decoded captures.next
  enode_is_named is = record {
    k = Enode node;
    is = is;
    told = refl;
    says = record { bytes = head_bytes; records = []; file = refl; taken = refl; inputs = []; run = refl; is = refl };
    quiet = quiet (Enode node) FILES FILES [] [];
  }
