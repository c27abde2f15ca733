use Rattle.fc_frames.proofs.FrameLemmas.{decoded-is, same_frame}
use Rattle.fc_frames.proofs.laws.frame_stands_once.Goals as goal

pub returns-clause-read : goal.returns-clause-read
returns-clause-read c = decoded-is

pub returns-clause-once : goal.returns-clause-once
returns-clause-once c = same_frame
