use Rattle.std.proofs.Common.{◌≡◌, drop}
use Rattle.fab_state.specs.Fitting.{are_counted}
use Rattle.fab_state.proofs.pasts.are_counted.Given as goal

abbrev pub invariant-loop-past : goal.invariant-loop-past
invariant-loop-past l = are_counted l.next (drop l.past-index l.pasts) ≡ are_counted l.fn.first l.pasts
