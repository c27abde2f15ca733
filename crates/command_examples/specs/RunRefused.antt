-- What refuses `run`: a capture without a head, one that is cut, and one of more than six hours.
use Rattle.std.specs.Prelude.{false, [], ◌∷◌, drop, codes, None, Some, refl}
use Rattle.std.proofs.Common.{inl, inr}
use Rattle.pcap_file.specs.Capture as captures
use Rattle.pcap_file.specs.Capture.{HEAD, head_decoded}
use Rattle.pcap_file.specs.Reading as reading
use Rattle.pcap_file.specs.declared.CapFault.TheVariants as heads
use Rattle.pcap_file.specs.declared.fault.CapWhy.TheVariants as caps
use Rattle.pcap_file.specs.declared.fault.LimitKind.TheVariants as kinds
use Rattle.window_records.specs.Looks as looks
use Rattle.fabric_tool.specs.Command.{Run}
use Rattle.fabric_tool.specs.Statuses.{Says}
use Rattle.fabric_tool.specs.declared.outcome.Outcome.TheVariants as ends
use Rattle.command_examples.specs.Faulty.{CUT, LONG, with_input}
use Rattle.command_examples.specs.Running.{value}
use Rattle.command_examples.specs.Store.{CONFIG, K, names, holding}

-- an empty file has no head
pub run_says_head : Says (Run names) (holding (with_input [])) (ends.Capture 1 0 caps.Short)
unfolding head_decoded
run_says_head = inl (
  refl,
  record {
    settings = K;
    config = record { text = CONFIG; file = refl; value = value };
    first = record {
      before = [];
      name = codes "IN";
      behind = [];
      are = refl;
      number = refl;
      opened = [];
      heads = tt;
      without = record { bytes = []; file = refl; fault = heads.Short; says = refl; word = refl };
    };
  },
)

abbrev behind_head : looks.Opened
behind_head = record { head = record { big = false; nano = false }; body = 0 ∷ [] }

pub run_says_cut : Says (Run names) (holding (with_input CUT)) (ends.Capture 1 24 caps.Cut)
unfolding head_decoded looks.looks looks.stop captures.next
run_says_cut = inr (record {
  settings = K;
  opened = behind_head ∷ [];
  inputs = record { config = record { text = CONFIG; file = refl; value = value }; heads = (record { bytes = CUT; file = refl; head = refl; body = refl }, tt) };
  at = record { why = looks.Fails reading.Cut; port = 1; at = 24; window = None };
  is = refl;
  says = refl;
})

abbrev long : looks.Opened
long = record { head = record { big = false; nano = false }; body = drop HEAD LONG }

pub run_says_span : Says (Run names) (holding (with_input LONG)) (ends.Limit kinds.Span)
unfolding head_decoded looks.looks looks.stop captures.next
run_says_span = record {
  settings = K;
  opened = long ∷ [];
  inputs = record { config = record { text = CONFIG; file = refl; value = value }; heads = (record { bytes = LONG; file = refl; head = refl; body = refl }, tt) };
  at = record { why = looks.Span; port = 1; at = 56; window = Some 21600200 };
  is = refl;
  says = refl;
}
