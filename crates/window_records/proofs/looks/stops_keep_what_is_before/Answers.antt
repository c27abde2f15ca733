use Rattle.window_records.proofs.KeepLemmas.{before_keeps, stopped_keeps, kept_all, stops_ahead}
use Rattle.window_records.proofs.looks.stops_keep_what_is_before.Goals as goal

pub returns : goal.returns
returns c = record { ahead = stops_ahead; before = before_keeps; just = stopped_keeps; all = kept_all }
