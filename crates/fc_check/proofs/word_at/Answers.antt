use Rattle.std.proofs.Common.{arith}
use Rattle.fc_check.specs.Tables.{four_at}
use Rattle.fc_check.proofs.word_at.Goals as goal

pub returns : goal.returns
unfolding four_at
returns c = omega (arith, c.from_le_bytes.ensures)
