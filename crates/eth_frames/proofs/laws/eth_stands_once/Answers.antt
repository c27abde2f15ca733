use Rattle.eth_frames.proofs.EthernetLemmas.{decoded-is, same_frame}
use Rattle.eth_frames.proofs.laws.eth_stands_once.Goals as goal

pub returns-clause-read : goal.returns-clause-read
returns-clause-read c = decoded-is

pub returns-clause-once : goal.returns-clause-once
returns-clause-once c = same_frame
