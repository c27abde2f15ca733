use Rattle.fcoe_codec.proofs.FcoeLemmas.{decoded-is, same_frame}
use Rattle.fcoe_codec.proofs.laws.fcoe_stands_once.Goals as goal

pub returns-clause-read : goal.returns-clause-read
returns-clause-read c = decoded-is

pub returns-clause-once : goal.returns-clause-once
returns-clause-once c = same_frame
