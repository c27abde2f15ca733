use Rattle.std.proofs.Common.{refl}
use Rattle.fab_windows.proofs.TickLemmas.{ticking_more, ticking_all, ticking_part, all_on_err}
use Rattle.fab_windows.proofs.plan.tick_to.Goals as goal

pub ticks-preserved : goal.ticks-preserved
ticks-preserved c =
    ticking_more c.args.window c.in-Some.moment _ c.args.fabric.now c.ticks.fabric c.tick.new.self c.ticks.invariant c.in-Some.ensures refl c.in_ok-tick.ensures.takes

pub returns-clause-ticked : goal.returns-clause-ticked
returns-clause-ticked c = ticking_all c.args.window c.args.fabric.now c.ticks.fabric c.ticks.invariant c.in_default.ensures

pub returns-in_err-tick-clause-part : goal.returns-in_err-tick-clause-part
returns-in_err-tick-clause-part c =
    all_on_err c.from_residual.result (ticking_part c.args.window c.args.fabric.now c.ticks.fabric c.tick.new.self c.ticks.invariant c.in_err-tick.ensures.err)
