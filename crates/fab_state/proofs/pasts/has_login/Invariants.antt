use Rattle.std.proofs.Common.{◌≡◌, drop}
use Rattle.fab_state.specs.Fitting.{has_login}
use Rattle.fab_state.proofs.pasts.has_login.Given as goal

abbrev pub invariant-loop-port : goal.invariant-loop-port
invariant-loop-port l = has_login l.fn.address (drop l.port-index l.fn.ports) ≡ has_login l.fn.address l.fn.ports
