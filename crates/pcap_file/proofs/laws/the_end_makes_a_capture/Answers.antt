use Rattle.pcap_file.proofs.lemmas.Chains.{ends_as_capture}
use Rattle.pcap_file.proofs.laws.the_end_makes_a_capture.Goals as goal

pub returns : goal.returns
returns c = λ h rs file rest head c e. ends_as_capture h rs file rest head c e
