use Rattle.window_records.proofs.ReadLemmas.{reads_on, read_stays, read_is_below, read_splits, read_is_all}
use Rattle.window_records.proofs.laws.records_are_read.Goals as goal

pub returns : goal.returns
returns c = record { on = reads_on; stays = read_stays; below = read_is_below; splits = read_splits; all = read_is_all }
