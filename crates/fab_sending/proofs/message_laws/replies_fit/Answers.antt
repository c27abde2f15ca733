use Rattle.fab_sending.proofs.Replying.{fits}
use Rattle.fab_sending.proofs.message_laws.replies_fit.Goals as goal

pub returns : goal.returns
returns c = fits
