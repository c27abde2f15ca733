use Rattle.std.proofs.Common.{◌≡◌, ◌%◌, IfSome, take}
use Rattle.window_records.specs.First.{IsNextWindow}
use Rattle.window_records.proofs.window.next_window.Given as goal

abbrev pub invariant-loop-shelf : goal.invariant-loop-shelf
invariant-loop-shelf l = record {
  least : IsNextWindow l.config (take l.shelf-index l.shelves) l.least;
  start : IfSome l.least (λ w. w % l.config.window ≡ 0);
}
