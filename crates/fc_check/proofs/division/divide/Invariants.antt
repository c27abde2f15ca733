use Rattle.fc_check.proofs.Room.{Divided}
use Rattle.fc_check.proofs.division.divide.Given as goal

abbrev pub invariant-loop-at : goal.invariant-loop-at
invariant-loop-at l = Divided l.initial.room l.room l.bytes l.at
