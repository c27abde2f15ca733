use Rattle.std.proofs.Common.{ℕ, ◌≡◌, ◌^◌, length}
use Rattle.window_records.specs.Ports.{TakesFrom, walk_at}
use Rattle.fab_windows.specs.Pages.{pending}
use Rattle.fab_windows.specs.From.{nothing_of}
use Rattle.fab_windows.specs.Turns.{task_of, Going}
use Rattle.window_records.proofs.ClockLemmas.{distance}
use Rattle.window_records.specs.First.{start_at, Start}
use Rattle.fab_windows.proofs.run.run_windows.Given as goal

abbrev pub invariant-windows : goal.invariant-windows
invariant-windows g l =
    let seen = g.D.Depot.seen in
    let s : Start = start_at (seen l.fn.depot) l.fn.ins l.fn.budget in
    record {
      v : ℕ;
      going : Going (task_of s (nothing_of l.fn.fabric.settings) l.fn.fabric.settings l.journal l.outs) v l.run.first l.fabric (walk_at (seen l.depot) l.ins l.run.shelves.items l.budget) l.run.done (pending l.run.pages);
      settings : l.fabric.settings ≡ l.fn.fabric.settings;
      pages : length l.run.pages.records.items ≡ length l.outs;
      takes : TakesFrom l.fn.ins l.ins l.fn.budget l.budget;
    }

abbrev pub decreases-windows : goal.decreases-windows
decreases-windows g l = distance (2 ^ 43) l.fabric.state.tables.clock
