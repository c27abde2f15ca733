use Rattle.std.proofs.Common.{arith, length-drop}
use Rattle.fab_base.proofs.Depots.{put_step}
use Rattle.fab_base.proofs.whole.put_all.Goals as goal

pub loop-done-preserved : goal.loop-done-preserved
loop-done-preserved g c =
    let i = c.loop-done.invariant in
    record {
      put = put_step c.args.slot c.loop-done.done c.in_ok-done.field-0 _ _ _ c.args.from.now c.requires i.put c.in_ok-done.ensures.puts;
      bound = omega (arith, length-drop c.loop-done.done c.args.from.now, c.in_ok-done.ensures.puts.some);
    }
