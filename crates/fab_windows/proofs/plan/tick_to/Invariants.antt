use Rattle.window_records.proofs.ClockLemmas.{distance}
use Rattle.fab_windows.proofs.TickLemmas.{Ticking}
use Rattle.fab_windows.proofs.plan.tick_to.Given as goal

abbrev pub invariant-ticks : goal.invariant-ticks
invariant-ticks l = Ticking l.window l.initial.fabric l.fabric

abbrev pub decreases-ticks : goal.decreases-ticks
decreases-ticks l = distance l.window l.fabric.state.tables.clock
