use Rattle.fab_sending.proofs.Telling.{ticks_tell}
use Rattle.fab_sending.proofs.laws.ticks_tell.Goals as goal

pub returns : goal.returns
returns c = ticks_tell c.journal_steps.ensures.found c.tables_change.ensures.tick
