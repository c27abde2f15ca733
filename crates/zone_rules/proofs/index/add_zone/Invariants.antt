use Rattle.std.proofs.Common.{◌≡◌, ℕ, ◌==◌, ◌&&◌, ◌||◌, take}
use Rattle.sorted_lists.specs.Row.{has}
use Rattle.zone_rules.specs.Joined.{contains}
use Rattle.zone_rules.specs.Index.{of_name}
use Rattle.zone_rules.proofs.index.add_zone.Given as goal

abbrev pub invariant-loop-index : goal.invariant-loop-index
invariant-loop-index l = (x q : ℕ) → has (of_name l.rows x) q ≡ ((l.place == q && contains x (take l.index l.members)) || has (of_name l.initial.rows x) q)
