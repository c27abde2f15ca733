use Rattle.std.proofs.Common.{◌≡◌, drop}
use Rattle.fab_state.specs.Fitting.{is_named}
use Rattle.fab_state.proofs.logins.is_named.Given as goal

abbrev pub invariant-loop-port : goal.invariant-loop-port
invariant-loop-port l = is_named l.fn.name (drop l.port-index l.ports) ≡ is_named l.fn.name l.ports
