use Rattle.std.proofs.Common.{◌≤◌, ◌-◌, length, drop}
use Rattle.fc_check.proofs.Numbers.{low}
use Rattle.fc_check.proofs.Words.{Turns}
use Rattle.fc_check.proofs.fed.Given as goal

abbrev pub invariant-loop-at : goal.invariant-loop-at
invariant-loop-at l = record { within : l.at ≤ length l.bytes; turns : Turns (low 32 l.register) (drop l.from l.bytes) (drop l.at l.bytes) l.turned }

abbrev pub decreases-loop-at : goal.decreases-loop-at
decreases-loop-at l = length l.bytes - l.at
