use Rattle.std.proofs.Common.{◌≡◌, ◌≤◌, ◌+◌, drop}
use Rattle.fab_state.specs.Fitting.{pasts_fault}
use Rattle.fab_state.proofs.pasts.pasts_fault.Given as goal

abbrev pub invariant-loop-past : goal.invariant-loop-past
invariant-loop-past l = (pasts_fault l.fn.now l.fn.ports l.at (drop l.past-index l.fn.pasts) ≡ pasts_fault l.fn.now l.fn.ports l.fn.line l.fn.pasts) × (l.at ≤ l.fn.line + l.past-index)
