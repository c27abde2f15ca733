use Rattle.std.proofs.Common.{length}
use Rattle.codec_cases.proofs.cases.answer_all.Given as goal

abbrev pub decreases-loop-line : goal.decreases-loop-line
decreases-loop-line l = length l.rest
