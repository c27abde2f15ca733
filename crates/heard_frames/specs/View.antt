-- A decoded frame of the code, without where its bytes lie in memory.
use Rattle.std.specs.Prelude.{Result, Ok, Err}
use Rattle.eth_frames.specs.Ethernet as eth
use Rattle.fcoe_codec.specs.Fcoe as capsule
use Rattle.fcoe_codec.specs.declared.FcoeFault.{FcoeFault}
use Rattle.fcoe_codec.specs.declared.FcoeFrame.{FcoeFrame}
use Rattle.fip_codec.specs.Message as fip
use Rattle.heard_frames.specs.Heard.{What, Bad, Fip, Fcoe}
use Rattle.heard_frames.specs.declared.heard.What as declared
use Rattle.heard_frames.specs.declared.heard.What.TheVariants as variants

abbrev pub read_view : Result FcoeFrame FcoeFault → Result capsule.Fcoe FcoeFault
read_view (Ok f) = Ok (capsule.view f)
read_view (Err fault) = Err fault

abbrev pub view : declared.What → What
view (variants.Bad fault) = Bad fault
view (variants.Fip f message) = Fip (eth.view f) (fip.view message)
view (variants.Fcoe f read) = Fcoe (eth.view f) (read_view read)
