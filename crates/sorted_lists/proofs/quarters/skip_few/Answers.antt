use Rattle.std.proofs.Common.{ℕ, ◌+◌, ◌≤◌, Bool, true, false, arith}
use Rattle.sorted_lists.proofs.ReachLemmas.{goes_on}
use Rattle.sorted_lists.proofs.quarters.skip_few.Goals as goal

counted : (start reached place : ℕ) (b : Bool) → start ≤ reached × reached ≤ place → start ≤ reached + mir.Val.bool_byte b × reached + mir.Val.bool_byte b ≤ place + 1
counted start reached place true h = (omega (arith, h.0), omega (arith, h.1))
counted start reached place false h = (omega (arith, h.0), omega (arith, h.1))

pub loop-place-preserved : goal.loop-place-preserved
loop-place-preserved g c = record {
  on = counted c.args.start c.loop-place.reached c.loop-place.place c.holds.result c.loop-place.invariant.on;
  value = λ count n h fits from to. goes_on _ count n h c.loop-place.place c.loop-place.reached c.holds.result (omega (arith, fits, c.loop-place-test.true)) c.holds.ensures (c.loop-place.invariant.value count n h fits from to);
}

pub returns-clause-value : goal.returns-clause-value
returns-clause-value g c = λ count n h fits from to. (c.loop-place.invariant.value count n h fits from to).0 (omega (arith, to, c.loop-place-test.false))
