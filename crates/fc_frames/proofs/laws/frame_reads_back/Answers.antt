use Rattle.fc_frames.specs.Frame.{frame_bytes}
use Rattle.fc_frames.proofs.FrameLemmas.{decoded-is, is_written}
use Rattle.fc_frames.proofs.laws.frame_reads_back.Goals as goal

pub returns : goal.returns
returns c = λ f fits payload. decoded-is f (frame_bytes f) (is_written f fits payload)
