use Rattle.std.proofs.Common.{length, ◌-◌}
use Rattle.fab_replay.proofs.FeedLemmas.{Passed}
use Rattle.fab_replay.proofs.lines.line_end.Given as goal

abbrev pub invariant-bytes : goal.invariant-bytes
invariant-bytes l = Passed l.text l.end

abbrev pub decreases-bytes : goal.decreases-bytes
decreases-bytes l = length l.text - l.end
