use Rattle.std.proofs.Common.{length}
use Rattle.fabric_cases.proofs.answer_all.Given as goal

-- each line is shorter than what it begins
abbrev pub decreases-lines : goal.decreases-lines
decreases-lines g l = length l.rest
