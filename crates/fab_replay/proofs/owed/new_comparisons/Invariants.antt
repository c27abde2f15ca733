use Rattle.std.proofs.Common.{◌≡◌, length}
use Rattle.fab_replay.proofs.OwedLemmas.{AreFresh}
use Rattle.fab_replay.proofs.owed.new_comparisons.Given as goal

abbrev pub invariant-loop : goal.invariant-loop
invariant-loop l = record {
  count : length l.all.items ≡ l.counter;
  fresh : AreFresh l.all.items;
}
