use Rattle.std.proofs.Common.{◌≡◌}
use Rattle.fab_sending.specs.Messages.{advertisements, at_moment}
use Rattle.fab_sending.proofs.adverts.on_all_ports.Given as goal

abbrev pub invariant-loop-index : goal.invariant-loop-index
invariant-loop-index l = l.outs ≡ at_moment l.moment (advertisements l.index)
