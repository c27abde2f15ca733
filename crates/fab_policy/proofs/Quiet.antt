-- After each legal journal nobody is overdue at the clock, and tables ascend.
use Rattle.std.proofs.Common.{◌+◌, ◌*◌, arith}
use Rattle.fab_policy.specs.State.{live_port}
use Rattle.fab_policy.specs.Written.{TablesAscend, LegalIsQuiet}
use Rattle.fab_policy.proofs.Found.{ascends}
use Rattle.fab_policy.proofs.Sound.{legal_is_sound}
use Rattle.fab_policy.proofs.Steps.{live_addressed}

pub tables_ascend : TablesAscend
tables_ascend c J = ascends (λ a. live_port a J) (live_addressed J) c.pool (c.domain * 65536 + 256) (c.domain * 65536 + 256 + c.pool) (omega arith)

pub legal_is_quiet : LegalIsQuiet
legal_is_quiet c J l = (legal_is_sound c J l).quiet
