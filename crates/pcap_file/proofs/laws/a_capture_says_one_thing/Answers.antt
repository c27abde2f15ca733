use Rattle.pcap_file.proofs.lemmas.Chains.{one_capture}
use Rattle.pcap_file.proofs.laws.a_capture_says_one_thing.Goals as goal

pub returns : goal.returns
returns c = λ file h k rs qs a b. one_capture file h k rs qs a b
