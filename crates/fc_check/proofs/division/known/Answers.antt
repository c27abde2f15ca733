use Rattle.std.proofs.Common.{arith}
use Rattle.fc_check.proofs.division.known.Goals as goal

pub returns : goal.returns
returns c = λ i. let fit = c.type_inv.bytes i in omega arith
