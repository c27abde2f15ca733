use Rattle.std.proofs.Common.{◌≡◌, drop}
use Rattle.fab_state.specs.Fitting.{are_unused}
use Rattle.fab_state.proofs.pasts.are_unused.Given as goal

abbrev pub invariant-loop-past : goal.invariant-loop-past
invariant-loop-past l = are_unused (drop l.past-index l.fn.pasts) ≡ are_unused l.fn.pasts
