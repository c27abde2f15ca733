use Rattle.wire_store.proofs.CutLemmas.{capture_cut, capture_of_packets_cut}
use Rattle.wire_store.proofs.laws.a_capture_is_cut_into_its_frames.Goals as goal

pub returns : goal.returns
returns c = record { capture = capture_cut; classic = capture_of_packets_cut }
