use Rattle.fc_frames.proofs.PieceLaws.{pieces-cuts}
use Rattle.fc_frames.proofs.laws.ranges_have_the_pieces.Goals as goal

pub returns : goal.returns
returns c = pieces-cuts
