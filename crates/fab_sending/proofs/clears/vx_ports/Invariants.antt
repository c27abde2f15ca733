use Rattle.std.proofs.Common.{◌≡◌, take}
use Rattle.fab_sending.specs.Clearing.{vx_ports_of}
use Rattle.fab_sending.proofs.clears.vx_ports.Given as goal

abbrev pub invariant-loop-login : goal.invariant-loop-login
invariant-loop-login l = l.ports.items ≡ vx_ports_of l.config l.enode (take l.login-index l.logins)
