-- What refuses `snoop` and `enode`: a capture that is cut, and captures of more than six hours.
use Rattle.std.specs.Prelude.{List, [], ◌∷◌, codes, refl}
use Rattle.pcap_file.specs.Capture as captures
use Rattle.pcap_file.specs.Capture.{head_decoded}
use Rattle.pcap_file.specs.Captures.{capture_by}
use Rattle.pcap_file.specs.declared.fault.CapWhy.TheVariants as caps
use Rattle.pcap_file.specs.declared.fault.LimitKind.TheVariants as kinds
use Rattle.fabric_tool.specs.Command.{Snoop, Enode}
use Rattle.fabric_tool.specs.Statuses.{Says}
use Rattle.fabric_tool.specs.declared.outcome.Outcome.TheVariants as ends
use Rattle.command_examples.specs.Faulty.{CUT, LONG, NO_CONFIG, missing, has_fault, file, with_input}
use Rattle.command_examples.specs.Running.{value}
use Rattle.command_examples.specs.Sides.{sides, node}
use Rattle.command_examples.specs.Store.{File, CONFIG, K, K_FILE, IN_FILE, holding}

pub snoop_says_config : Says (Snoop sides) (holding NO_CONFIG) (ends.Config missing)
snoop_says_config = has_fault

-- the capture of port 1 has no record, and that of port 2 is cut
abbrev pub SECOND_CUT : List File
SECOND_CUT = K_FILE ∷ IN_FILE ∷ file (codes "IN2") CUT ∷ []

pub snoop_says_cut : Says (Snoop sides) (holding SECOND_CUT) (ends.Capture 2 24 caps.Cut)
unfolding capture_by head_decoded captures.next
snoop_says_cut = record { settings = K; config = record { text = CONFIG; file = refl; value = value }; stops = refl }

abbrev pub SECOND_LONG : List File
SECOND_LONG = K_FILE ∷ IN_FILE ∷ file (codes "IN2") LONG ∷ []

pub snoop_says_span : Says (Snoop sides) (holding SECOND_LONG) (ends.Limit kinds.Span)
unfolding capture_by head_decoded captures.next
snoop_says_span = record { settings = K; config = record { text = CONFIG; file = refl; value = value }; stops = refl }

pub enode_says_cut : Says (Enode node) (holding (with_input CUT)) (ends.Capture 1 24 caps.Cut)
unfolding capture_by head_decoded captures.next
enode_says_cut = record { bytes = CUT; found = refl; says = refl }

-- the node starts at 0
pub enode_says_span : Says (Enode node) (holding (with_input LONG)) (ends.Limit kinds.Span)
unfolding capture_by head_decoded captures.next
enode_says_span = record { bytes = LONG; found = refl; says = refl }
