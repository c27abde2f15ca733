use Rattle.pcap_file.proofs.lemmas.Chains.{moments_ascend}
use Rattle.pcap_file.proofs.laws.moments_do_not_go_back.Goals as goal

pub returns : goal.returns
returns c = λ h file. moments_ascend h file
