use Rattle.fcoe_codec.specs.Fcoe.{written}
use Rattle.fcoe_codec.proofs.FcoeLemmas.{decoded-is, is_written}
use Rattle.fcoe_codec.proofs.laws.fcoe_reads_back.Goals as goal

pub returns : goal.returns
returns c = λ f may. decoded-is f (written f) (is_written f may)
