use Rattle.pcapng_file.proofs.BackLemmas.{read_back}
use Rattle.pcapng_file.proofs.laws.a_capture_of_packets_is_read_back.Goals as goal

pub returns : goal.returns
returns c = read_back
