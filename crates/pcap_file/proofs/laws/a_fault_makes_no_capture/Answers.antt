use Rattle.pcap_file.proofs.lemmas.Chains.{fault_is_no_capture, bad_head}
use Rattle.pcap_file.proofs.laws.a_fault_makes_no_capture.Goals as goal

pub returns : goal.returns
returns c = record { records = λ h rs file rest head c f k qs is. fault_is_no_capture h rs file rest head c f k qs is; head = λ file fault e k qs is. bad_head file fault e k qs is }
