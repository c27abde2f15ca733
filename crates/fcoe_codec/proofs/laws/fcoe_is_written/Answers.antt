use Rattle.fcoe_codec.proofs.FcoeLemmas.{is_written}
use Rattle.fcoe_codec.proofs.laws.fcoe_is_written.Goals as goal

pub returns : goal.returns
returns c = is_written
