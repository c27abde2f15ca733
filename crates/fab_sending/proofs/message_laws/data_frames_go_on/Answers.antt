use Rattle.fab_sending.proofs.Going.{go_on}
use Rattle.fab_sending.proofs.message_laws.data_frames_go_on.Goals as goal

pub returns : goal.returns
returns c = go_on
