use Rattle.std.proofs.Common.{take}
use Rattle.zone_rules.specs.Index.{AreRows}
use Rattle.zone_rules.proofs.sets.rows_of_sets.Given as goal

abbrev pub invariant-loop-index : goal.invariant-loop-index
invariant-loop-index l = AreRows l.zones l.rows (take l.index l.sets)
