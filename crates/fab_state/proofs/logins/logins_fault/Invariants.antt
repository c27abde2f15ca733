use Rattle.std.proofs.Common.{◌≡◌, ◌+◌, length}
use Rattle.fab_state.specs.Fitting.{first_of, logins_fault}
use Rattle.fab_state.proofs.logins.logins_fault.Given as goal

abbrev pub invariant-logins : goal.invariant-logins
invariant-logins l =
    (logins_fault l.fn.config l.fn.ports l.fn.tables l.least l.at l.rest
    ≡ logins_fault l.fn.config l.fn.ports l.fn.tables (first_of l.fn.config) l.fn.line l.fn.tables.ports)
    × (l.at + length l.rest ≡ l.fn.line + length l.fn.tables.ports)

abbrev pub decreases-logins : goal.decreases-logins
decreases-logins l = length l.rest
