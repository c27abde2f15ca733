use Rattle.fc_check.proofs.Room.{IsLeft}
use Rattle.fc_check.proofs.division.rest_of.Given as goal

abbrev pub invariant-loop-at : goal.invariant-loop-at
invariant-loop-at l = IsLeft l.room l.bytes l.rest l.count l.at
