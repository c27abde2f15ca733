use Rattle.fab_sending.proofs.Keeping.{kept}
use Rattle.fab_sending.proofs.message_laws.messages_are_kept.Goals as goal

pub returns : goal.returns
returns c = kept
