use Rattle.window_records.proofs.NextLemmas.{window_moves}
use Rattle.window_records.proofs.laws.windows_move_on.Goals as goal

pub returns : goal.returns
returns c = window_moves
