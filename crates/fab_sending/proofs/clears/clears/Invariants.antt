use Rattle.std.proofs.Common.{◌≡◌, take, flat_map}
use Rattle.fab_sending.specs.Clearing.{clears_to}
use Rattle.fab_sending.specs.Messages.{at_moment}
use Rattle.fab_sending.proofs.clears.clears.Given as goal

abbrev pub invariant-loop-enode : goal.invariant-loop-enode
invariant-loop-enode l = l.outs ≡ at_moment l.moment (flat_map (clears_to l.config l.ended) (take l.enode-index l.enode-items))
