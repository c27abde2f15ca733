use Rattle.std.proofs.Common.{◌≡◌, ◌-◌, take}
use Rattle.fab_shared.specs.Sizes.{bytes_on}
use Rattle.fab_shared.proofs.sizes.lacking.Given as goal

abbrev pub invariant-loop-shelf : goal.invariant-loop-shelf
invariant-loop-shelf l = l.left ≡ l.bytes - bytes_on (take l.shelf-index l.shelves)
