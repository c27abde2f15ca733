use Rattle.std.proofs.Common.{◌≡◌, take}
use Rattle.zone_rules.specs.Joined.{active_set}
use Rattle.zone_rules.proofs.zones.active_set.Given as goal

abbrev pub invariant-loop-index : goal.invariant-loop-index
invariant-loop-index l = l.found ≡ active_set (take l.index l.activations) l.at
