use Rattle.std.proofs.Common.{◌≡◌, ◌<◌, ℕ, take}
use Rattle.sorted_lists.specs.Row.{has}
use Rattle.zone_rules.specs.Joined.{contains}
use Rattle.zone_rules.proofs.sets.row_of_places.Given as goal

abbrev pub invariant-loop-index : goal.invariant-loop-index
invariant-loop-index l = (q : ℕ) → q < l.zones → has l.row.items q ≡ contains q (take l.index l.places)
