use Rattle.std.proofs.Common.{◌≡◌, ◌-◌, ◌^◌}
use Rattle.fab_base.specs.Ending.{NoFaults}
use Rattle.window_records.specs.Ports.{TakesFrom, walk_at}
use Rattle.fab_replay.specs.Check.{Task}
use Rattle.fab_replay.specs.Windows.{Going, IsOf, stand_at}
use Rattle.fab_replay.proofs.windows.check_windows.Given as goal

abbrev pub invariant-windows : goal.invariant-windows
invariant-windows g l =
    let seen = g.D.Depot.seen in
    record {
      turns : (k : Task) → IsOf k l.written → Going k 0 (stand_at l.fn.fabric l.fn.course (walk_at (seen l.fn.depot) l.fn.ins l.fn.shelves l.fn.budget)) →
          Going k l.from (stand_at l.fabric l.course (walk_at (seen l.depot) l.ins l.shelves l.budget));
      settings : l.fabric.settings ≡ l.fn.fabric.settings;
      count : l.fabric.count ≡ l.fn.fabric.count;
      takes : TakesFrom l.fn.ins l.ins l.fn.budget l.budget;
      counts : NoFaults (seen l.fn.depot) (seen l.depot);
    }

abbrev pub decreases-windows : goal.decreases-windows
decreases-windows g l = 2 ^ 43 - l.from
