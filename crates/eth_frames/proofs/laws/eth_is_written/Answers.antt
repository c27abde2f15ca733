use Rattle.eth_frames.proofs.EthernetLemmas.{is_written}
use Rattle.eth_frames.proofs.laws.eth_is_written.Goals as goal

pub returns : goal.returns
returns c = is_written
