use Rattle.std.proofs.Common.{◌≡◌, true, take}
use Rattle.fab_config.specs.Text.{is_later}
use Rattle.fab_config.proofs.named.is_later.Given as goal

abbrev pub invariant-loop-index : goal.invariant-loop-index
invariant-loop-index l = is_later (take l.index l.activations) l.moment ≡ true
