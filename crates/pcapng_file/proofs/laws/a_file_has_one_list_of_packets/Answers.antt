use Rattle.pcapng_file.proofs.LawLemmas.{one_list}
use Rattle.pcapng_file.proofs.laws.a_file_has_one_list_of_packets.Goals as goal

pub returns : goal.returns
returns c = λ v w l a b. one_list v w l a b
