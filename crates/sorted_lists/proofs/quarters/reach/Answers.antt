use Rattle.std.proofs.Common.{arith}
use Rattle.sorted_lists.proofs.quarters.reach.Goals as goal

pub loop-left-preserved : goal.loop-left-preserved
loop-left-preserved g c = record {
  within = omega (arith, c.loop-left.invariant.within, c.skip_quarters-start.ensures.on);
  around = λ n h.
      let before = c.loop-left.invariant.around n h in
      let inside = c.loop-left.invariant.within in
      let from = c.skip_quarters-start.ensures.from c.args.count n h (omega (arith, inside, c.loop-left-test.true)) before.0 in
      let to = c.skip_quarters-start.ensures.to c.args.count n c.loop-left.left h (omega (arith, inside, c.loop-left-test.true)) (omega arith) before.1 in
      (from, omega (arith, to, c.loop-left-test.true));
}

pub returns-clause-value : goal.returns-clause-value
returns-clause-value g c = λ n h.
    let before = c.loop-left.invariant.around n h in
    c.skip_few.ensures.value c.args.count n h c.loop-left.invariant.within before.0 before.1
