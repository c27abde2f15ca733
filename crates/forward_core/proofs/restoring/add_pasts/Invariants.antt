use Rattle.std.proofs.Common.{length}
use Rattle.forward_core.proofs.RefillLemmas.{PastsSoFar}
use Rattle.forward_core.proofs.restoring.add_pasts.Given as goal

abbrev pub invariant-pasts : goal.invariant-pasts
invariant-pasts l = PastsSoFar l.fn.past l.rest l.fn.roster l.roster

abbrev pub decreases-pasts : goal.decreases-pasts
decreases-pasts l = length l.rest
