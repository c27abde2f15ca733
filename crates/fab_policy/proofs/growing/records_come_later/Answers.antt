use Rattle.fab_policy.proofs.GrowLemmas as grow
use Rattle.fab_policy.proofs.GrowLemmas.{nothing_is_run}
use Rattle.fab_policy.proofs.growing.records_come_later.Goals as goal

pub returns : goal.returns
returns c = record { timed = grow.time_grows; nothing = nothing_is_run }
