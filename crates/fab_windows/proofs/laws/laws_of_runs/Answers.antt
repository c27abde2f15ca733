use Rattle.fab_windows.proofs.laws.laws_of_runs.Goals as goal

pub returns : goal.returns
returns c = record {
  followed_by = c.entries_come_in_parts.ensures.followed;
  text_grows = c.later_entries_are_written.ensures.text;
  records_grow = c.later_entries_are_written.ensures.records;
  nothing_run = c.records_come_later.ensures.nothing;
  windows_run = c.runs_go_on.ensures.window;
  few = c.runs_go_on.ensures.few;
  early = c.runs_go_on.ensures.early;
  firsts_taken = c.firsts_are_taken.ensures;
  keeps_before = c.stops_keep_what_is_before.ensures.before;
  keeps_just = c.stops_keep_what_is_before.ensures.just;
  looks_ahead = c.looks_to_come.ensures.ahead;
  next_ahead = c.looks_to_come.ensures.next;
  next_first = c.looks_to_come.ensures.first;
  none_left = c.looks_to_come.ensures.none;
  moves = c.windows_move_on.ensures;
  reads_on = c.records_are_read.ensures.on;
  read_stays = c.records_are_read.ensures.stays;
  read_below = c.records_are_read.ensures.below;
  read_splits = c.records_are_read.ensures.splits;
  read_all = c.records_are_read.ensures.all;
}
