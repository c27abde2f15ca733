use Rattle.std.proofs.Common.{take}
use Rattle.fab_roster.specs.Changes.{EndsAll, IsSoundRoll}
use Rattle.fab_roster.specs.Roll.{addresses_of}
use Rattle.fab_roster.proofs.roster.Roster.end_all.Given as goal

abbrev pub invariant-loop-login : goal.invariant-loop-login
invariant-loop-login l = record { ends : EndsAll (take l.login-index (addresses_of l.fn.ended)) l.fn.self l.self; sound : IsSoundRoll l.self }
