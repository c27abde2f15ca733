use Rattle.pcap_file.proofs.WrittenLemmas.{head_read, record_read}
use Rattle.pcap_file.proofs.laws.what_is_written_is_read.Goals as goal

pub returns : goal.returns
returns c = (λ rest. head_read rest, λ greatest moment bytes rest below small. record_read greatest moment bytes rest below small)
