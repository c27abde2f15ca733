use Rattle.std.proofs.Common.{◌≡◌, take, true}
use Rattle.std.specs.List.{list_all}
use Rattle.fab_state.specs.Words.{is_no_feed}
use Rattle.fab_state.proofs.words.feed_at.Given as goal

abbrev pub invariant-loop-i : goal.invariant-loop-i
invariant-loop-i l = list_all is_no_feed (take l.i l.text) ≡ true
