use Rattle.eth_frames.specs.Ethernet.{written, with_pad}
use Rattle.eth_frames.proofs.EthernetLemmas.{decoded-is, is_written}
use Rattle.eth_frames.proofs.laws.eth_reads_back.Goals as goal

pub returns : goal.returns
returns c = λ f fits. decoded-is (with_pad f) (written f) (is_written f fits)
