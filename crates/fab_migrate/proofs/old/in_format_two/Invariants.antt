use Rattle.std.proofs.Common.{length}
use Rattle.fab_migrate.proofs.OldLemmas.{OldSoFar}
use Rattle.fab_migrate.proofs.old.in_format_two.Given as goal

abbrev pub invariant-loop-rest : goal.invariant-loop-rest
invariant-loop-rest l = OldSoFar l.text l.rest l.out.items l.clock l.entries

abbrev pub decreases-loop-rest : goal.decreases-loop-rest
decreases-loop-rest l = length l.rest
