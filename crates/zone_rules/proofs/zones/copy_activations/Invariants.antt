use Rattle.std.proofs.Common.{◌≡◌, take}
use Rattle.zone_rules.proofs.zones.copy_activations.Given as goal

abbrev pub invariant-loop-index : goal.invariant-loop-index
invariant-loop-index l = l.copy ≡ take l.index l.activations
