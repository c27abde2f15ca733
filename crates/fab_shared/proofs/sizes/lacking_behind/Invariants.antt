use Rattle.std.proofs.Common.{◌≡◌, ◌-◌, take}
use Rattle.fab_shared.specs.Sizes.{bytes_in}
use Rattle.fab_shared.proofs.sizes.lacking_behind.Given as goal

abbrev pub invariant-loop-record : goal.invariant-loop-record
invariant-loop-record l = l.left ≡ l.bytes - bytes_in (take l.record-index l.records)
