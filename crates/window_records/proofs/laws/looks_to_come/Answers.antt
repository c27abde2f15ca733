use Rattle.window_records.proofs.NextLemmas.{looks_ahead, next_is_ahead, next_is_first, late_ends, none_is_left}
use Rattle.window_records.proofs.laws.looks_to_come.Goals as goal

pub returns : goal.returns
returns c = record {
  ahead = looks_ahead c.stops_keep_what_is_before.ensures.ahead;
  next = next_is_ahead;
  first = next_is_first;
  late = late_ends c.steps_find_the_stop.ensures.late;
  none = none_is_left;
}
