use Rattle.std.proofs.Common.{◌-◌, length, arith}
use Rattle.fab_base.proofs.Depots.{fill_step, fill_ended, length-put_mid}
use Rattle.fab_base.proofs.whole.fill.Goals as goal

pub loop-got-preserved : goal.loop-got-preserved
loop-got-preserved g c =
    let i = c.loop-got.invariant in
    let fetched = c.in_ok-count.ensures.fetches in
    record {
      filled = fill_step c.args.slot c.loop-got.got c.in_ok-count.count (length c.loop-got.into - c.loop-got.got) _ _ _ c.loop-got.into c.fetch.new.into c.requires i.filled fetched i.bound;
      bound = omega (arith, length-put_mid c.loop-got.got c.loop-got.into c.fetch.new.into i.bound c.fetch.auto.into, fetched.bound, c.fetch.auto.into);
    }

pub returns-then-count-eq0 : goal.returns-then-count-eq0
returns-then-count-eq0 g c =
    let i = c.loop-got.invariant in
    record {
      fills = fill_ended c.args.slot c.loop-got.got c.in_ok-count.count (length c.loop-got.into - c.loop-got.got) _ _ _ c.loop-got.into c.fetch.new.into c.requires i.filled c.in_ok-count.ensures.fetches
          (omega (arith, length-put_mid c.loop-got.got c.loop-got.into c.fetch.new.into i.bound c.fetch.auto.into)) i.bound c.if-count-eq0.true;
    }
