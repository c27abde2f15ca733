use Rattle.std.proofs.Common.{◌≡◌, take}
use Rattle.fab_roster.specs.Roll.{addresses_of}
use Rattle.forward_core.proofs.tick.addresses_of.Given as goal

abbrev pub invariant-loop-login : goal.invariant-loop-login
invariant-loop-login l = l.ids ≡ addresses_of (take l.login-index l.logins)
