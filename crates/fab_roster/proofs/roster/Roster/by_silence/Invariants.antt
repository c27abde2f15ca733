use Rattle.std.proofs.Common.{◌-◌, ◌^◌}
use Rattle.fab_roster.specs.Roll.{login_of}
use Rattle.fab_roster.proofs.Late.{is_so}
use Rattle.fab_roster.proofs.Ports.{address}
use Rattle.fab_roster.proofs.Walks.{Walked, picked}
use Rattle.fab_roster.proofs.roster.Roster.by_silence.Given as goal

abbrev pub invariant-loop-address : goal.invariant-loop-address
invariant-loop-address l = Walked address (picked login_of (is_so l.overdue l.self.period l.moment)) l.from l.self.tables.ports l.logins

abbrev pub decreases-loop-address : goal.decreases-loop-address
decreases-loop-address l = 2 ^ 24 - l.from
