use Rattle.std.proofs.Common.{◌≡◌, ◌≤◌, ◌-◌, ◌++◌, drop, length}
use Rattle.name_server.specs.Views.{name_of}
use Rattle.name_server.proofs.SeenLemmas.{listed}
use Rattle.name_server.proofs.lists.names_of_type.Given as goal

abbrev pub invariant-loop-index : goal.invariant-loop-index
invariant-loop-index l = record {
  within : l.from ≤ length l.seen;
  so_far : l.list ++ listed (λ p. record { address = p.address; name = name_of l.name p }) l.kind l.registry.entries (drop l.from l.seen)
      ≡ listed (λ p. record { address = p.address; name = name_of l.name p }) l.kind l.registry.entries l.seen;
}

abbrev pub decreases-loop-index : goal.decreases-loop-index
decreases-loop-index l = length l.seen - l.from
