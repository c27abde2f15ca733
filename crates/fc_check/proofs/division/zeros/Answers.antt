use Rattle.fc_check.proofs.Room.{zeros-at}
use Rattle.fc_check.proofs.division.zeros.Goals as goal

pub returns : goal.returns
returns c = λ i. zeros-at 2048 i
