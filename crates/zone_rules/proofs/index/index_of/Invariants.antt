use Rattle.std.proofs.Common.{◌≡◌, ℕ, take}
use Rattle.sorted_lists.specs.Row.{has}
use Rattle.zone_rules.specs.Index.{of_name, lists}
use Rattle.zone_rules.proofs.index.index_of.Given as goal

abbrev pub invariant-loop-index : goal.invariant-loop-index
invariant-loop-index l = (x q : ℕ) → has (of_name l.rows x) q ≡ lists x q (take l.index l.zones)
