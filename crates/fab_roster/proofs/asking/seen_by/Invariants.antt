use Rattle.std.proofs.Common.{◌-◌, ◌^◌}
use Rattle.login_table.specs.Logins.{address_of}
use Rattle.fab_roster.proofs.Seen.{AreBelow, seen_of}
use Rattle.fab_roster.proofs.Walks.{Walked}
use Rattle.fab_roster.proofs.asking.seen_by.Given as goal

abbrev pub invariant-loop-login : goal.invariant-loop-login
invariant-loop-login l = record {
  walked : Walked address_of (seen_of l.config l.zones l.at l.asker) l.from l.logins.logins l.seen;
  below : AreBelow l.from l.seen;
}

abbrev pub decreases-loop-login : goal.decreases-loop-login
decreases-loop-login l = 2 ^ 24 - l.from
