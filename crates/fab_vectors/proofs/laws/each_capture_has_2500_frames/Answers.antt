use Rattle.fab_vectors.proofs.CaptureLemmas.{frames_count}
use Rattle.fab_vectors.proofs.laws.each_capture_has_2500_frames.Goals as goal

pub returns : goal.returns
returns c = frames_count
