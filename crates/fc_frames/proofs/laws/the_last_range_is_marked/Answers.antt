use Rattle.fc_frames.proofs.PieceLaws.{marked}
use Rattle.fc_frames.proofs.laws.the_last_range_is_marked.Goals as goal

pub returns : goal.returns
returns c = λ whole size before after p cuts. marked whole size 0 before after p cuts
