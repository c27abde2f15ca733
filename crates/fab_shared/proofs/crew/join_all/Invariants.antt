use Rattle.std.proofs.Common.{vec_len}
use Rattle.fab_shared.proofs.JoiningLemmas.{AreLeft}
use Rattle.fab_shared.proofs.crew.join_all.Given as goal

abbrev pub invariant-loop-worker : goal.invariant-loop-worker
invariant-loop-worker l = AreLeft l.shared l.fn.root l.root l.fn.workers.items l.workers.items l.refused

abbrev pub decreases-loop-worker : goal.decreases-loop-worker
decreases-loop-worker l = vec_len l.workers
