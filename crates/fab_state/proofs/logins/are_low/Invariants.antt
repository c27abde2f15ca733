use Rattle.std.proofs.Common.{◌≡◌, drop}
use Rattle.fab_state.specs.Fitting.{are_low}
use Rattle.fab_state.proofs.logins.are_low.Given as goal

abbrev pub invariant-loop-byte : goal.invariant-loop-byte
invariant-loop-byte l = are_low (drop l.byte-index l.features) ≡ are_low l.features
