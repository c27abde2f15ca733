use Rattle.std.proofs.Common.{arith}
use Rattle.fab_state.proofs.ExactLemmas.{named_more}
use Rattle.fab_state.proofs.pasts.named_count.Goals as goal

pub loop-past-preserved : goal.loop-past-preserved
loop-past-preserved c =
    let low = c.loop-past-test.true in
    let more = named_more c.args.pasts.now c.items-past-items.result.now c.loop-past.past-index c.past-item.result c.items-past-items.ensures low c.past-item.is in
    let one = c.has_name-count.ensures.value in
    let few = c.has_name-count.ensures.few in
    let inv = c.loop-past.invariant.0 in
    let most = c.loop-past.invariant.1 in
    (omega (arith, more, one, inv), omega (arith, few, most))
