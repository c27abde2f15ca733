use Rattle.std.proofs.Common.{◌≡◌}
use Rattle.fab_vectors.specs.Names.{numbered, port_name}
use Rattle.fab_vectors.proofs.settings.members.Given as goal

abbrev pub invariant-loop-index : goal.invariant-loop-index
invariant-loop-index l = l.members ≡ numbered (λ port. port_name port l.login) 1 l.index
