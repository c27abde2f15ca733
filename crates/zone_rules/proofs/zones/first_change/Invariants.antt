use Rattle.std.proofs.Common.{◌≡◌, drop}
use Rattle.zone_rules.specs.Joined.{next_change}
use Rattle.zone_rules.proofs.zones.first_change.Given as goal

abbrev pub invariant-loop-index : goal.invariant-loop-index
invariant-loop-index l = next_change (drop l.index l.activations) l.after ≡ next_change l.activations l.after
