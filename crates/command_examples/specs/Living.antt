-- `live` of one port over a stream of one packet.
use Rattle.std.specs.Prelude.{◌≡◌, ℕ, List, [], ◌∷◌, codes, Some, String, refl}
use Rattle.std.specs.declared.alloc.Global.{Global}
use Rattle.std.proofs.Common.{lit<}
use Rattle.fabric_tool.specs.Command.{LiveWords, Live, command}
use Rattle.fabric_tool.specs.Inputs.{HasConfig}
use Rattle.fabric_tool.specs.Statuses.{IsComplete}
use Rattle.command_examples.specs.Faulty.{file}
use Rattle.command_examples.specs.Pairs.{WITH_PACKET, packet, packet_read}
use Rattle.command_examples.specs.Running.{value}
use Rattle.command_examples.specs.Store.{File, CONFIG, K, K_FILE, holding, said, quiet}

abbrev pub port : LiveWords
port = record { config = codes "K"; journal = codes "J"; stream = codes "STREAM"; ins = codes "IN" ∷ []; outs = codes "OUT" ∷ [] }

-- the configuration, and a stream of these bytes
abbrev pub with_stream : List ℕ → List File
with_stream bytes = K_FILE ∷ file (codes "STREAM") bytes ∷ []

pub has_config : (bytes : List ℕ) → HasConfig (holding (with_stream bytes)) (codes "K") K
has_config bytes = record { text = CONFIG; file = refl; value = value }

pub live_is_complete : (words : List (String Global)) → command words ≡ Some (Live port) → IsComplete words (holding (with_stream WITH_PACKET)) (holding (with_stream WITH_PACKET)) (said []) (said [])
live_is_complete words is = record {
  k = Live port;
  is = is;
  forms = record {
    told = refl;
    settings = K;
    config = has_config WITH_PACKET;
    packets = packet ∷ [];
    stream = record { bytes = WITH_PACKET; file = refl; is = packet_read.file; within = (packet_read.bytes, packet_read.frames) };
    faces = (lit< tt, tt);
    span = (refl, tt);
  };
  quiet = quiet (Live port) (with_stream WITH_PACKET) (with_stream WITH_PACKET) [] [];
}
