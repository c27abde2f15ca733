use Rattle.std.proofs.Common.{◌≡◌, ◌-◌, take}
use Rattle.fab_pages.specs.Sizes.{bytes_out}
use Rattle.fab_pages.proofs.encoders.lacking.Given as goal

abbrev pub invariant-loop-out : goal.invariant-loop-out
invariant-loop-out l = l.left ≡ 262144 - bytes_out l.events (take l.out-index l.outs)
