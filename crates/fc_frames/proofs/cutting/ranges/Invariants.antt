use Rattle.std.proofs.Common.{◌-◌, ◌<◌}
use Rattle.fc_frames.proofs.PieceLemmas.{Leads}
use Rattle.fc_frames.proofs.cutting.ranges.Given as goal

abbrev pub invariant-loop-from : goal.invariant-loop-from
invariant-loop-from l = record { leads : Leads l.length l.size l.from l.ranges.items; within : l.from < l.length }

abbrev pub decreases-loop-from : goal.decreases-loop-from
decreases-loop-from l = l.length - l.from
