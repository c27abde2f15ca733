use Rattle.std.proofs.Common.{length}
use Rattle.forward_core.proofs.ReloginLemmas.{PortsSoFar}
use Rattle.forward_core.proofs.restoring.add_ports.Given as goal

abbrev pub invariant-ports : goal.invariant-ports
invariant-ports l = PortsSoFar l.fn.seam l.rest l.fn.roster l.roster

abbrev pub decreases-ports : goal.decreases-ports
decreases-ports l = length l.rest
