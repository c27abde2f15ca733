use Rattle.fab_sending.proofs.Sending.{ticks_send}
use Rattle.fab_sending.proofs.laws.ticks_send.Goals as goal

pub returns : goal.returns
returns c = ticks_send c.ticks_tell.ensures
