use Rattle.std.proofs.Common.{◌∙◌, ◌+◌, ◌%◌, ◌^◌, ◌<◌, ℕ, Some, None, IfSome, Err, refl, sym, ap, subst}
use Rattle.fab_config.specs.Settings.{Settings}
use Rattle.window_records.proofs.ClockLemmas.{nearer}
use Rattle.window_records.proofs.LeavesLemmas.{takes_then}
use Rattle.fab_windows.specs.Pages.{pending}
use Rattle.fab_policy.specs.Outputs.{State}
use Rattle.fab_windows.specs.From.{nothing_of}
use Rattle.fab_windows.specs.Run.{Runs}
use Rattle.fab_windows.proofs.FromNothingLemmas.{runs_are}
use Rattle.fab_windows.specs.Turns.{task_of, Going, Ended}
use Rattle.fab_windows.proofs.BeginLemmas.{going_first, going_next, next_early, next_as, ended_by}
use Rattle.fab_windows.proofs.TurnLemmas.{files_now}
use Rattle.fab_windows.proofs.ResultLemmas.{err_is}
use Rattle.window_records.specs.Ports.{walk_at}
use Rattle.window_records.specs.First.{start_at, Start}
use Rattle.fab_windows.specs.Files.{file_slots}
use Rattle.fab_windows.proofs.run.run_windows.Goals as goal

pub begin-requires-clause-ports : goal.begin-requires-clause-ports
begin-requires-clause-ports g c = c.requires.ports

pub begin-requires-clause-outputs : goal.begin-requires-clause-outputs
begin-requires-clause-outputs g c = c.requires.outputs

pub begin-requires-clause-given : goal.begin-requires-clause-given
begin-requires-clause-given g c = c.requires.given

pub returns-in_err-run : goal.returns-in_err-run
returns-in_err-run g c =
    let seen = g.D.Depot.seen in
    record {
      runs = subst (λ r. Runs c.args.fabric.settings (start_at (seen c.args.depot.now) c.args.ins.now c.args.budget.now) (seen c.begin.new.depot) (file_slots c.args.journal c.args.outs.now) r)
          (err_is c.from_residual.result c.in_err-run.field-0.0 c.from_residual.ensures.1)
          (runs_are c.args.fabric.settings (start_at (seen c.args.depot.now) c.args.ins.now c.args.budget.now) (seen c.begin.new.depot) (file_slots c.args.journal c.args.outs.now) (Err c.in_err-run.field-0.0) (c.in_err-run.ensures.begins c.args.fabric.settings));
      takes = c.in_err-run.ensures.takes;
    }

pub windows-init : goal.windows-init
windows-init g c =
    let seen = g.D.Depot.seen in
    let s : Start = start_at (seen c.args.depot.now) c.args.ins.now c.args.budget.now in
    let k = task_of s (nothing_of c.args.fabric.settings) c.args.fabric.settings c.args.journal c.args.outs.now in
    let shelves = c.in_ok-run.run'.shelves.items in
    let next = next_as c.config.result.now c.args.fabric.settings c.deref.result.now shelves c.next_window.result c.config.ensures c.deref.ensures.value c.next_window.ensures.least in
    record {
      v = 0;
      going = subst (λ (f : ℕ). Going k 0 f c.args.fabric (walk_at (seen c.begin.new.depot) c.begin.new.ins shelves c.begin.new.budget) c.in_ok-run.run'.done (pending c.in_ok-run.run'.pages)) (sym c.unwrap_or.ensures)
          (going_first c.laws_of_runs.ensures k (seen c.begin.new.depot) c.begin.new.ins shelves c.begin.new.budget (c.in_ok-run.ensures.begins c.args.fabric.settings) c.args.fabric c.next_window.result c.in_ok-run.run'.done (pending c.in_ok-run.run'.pages) c.in_ok-run.ensures.nothing
          refl c.requires.count c.requires.state (subst (λ (S : State). IfSome S.tables.clock (λ t. t < 0)) (sym c.requires.state) tt) c.requires.nothing.0 c.requires.nothing.1 next c.in_ok-run.ensures.done.0 c.in_ok-run.ensures.done.1);
      settings = refl;
      pages = c.in_ok-run.ensures.pages;
      takes = c.in_ok-run.ensures.takes;
    }

pub run_window-requires-clause-going : goal.run_window-requires-clause-going
run_window-requires-clause-going g c = λ κs within.
    let seen = g.D.Depot.seen in
    let s : Start = start_at (seen c.args.depot.now) c.args.ins.now c.args.budget.now in
    let k = task_of s (nothing_of c.args.fabric.settings) c.args.fabric.settings c.args.journal c.args.outs.now in
    let l = c.windows in
    let next = next_as c.config-in-windows.result.now c.args.fabric.settings c.deref-in-windows.result.now l.run.shelves.items (Some c.in-Some.window) (c.config-in-windows.ensures ∙ l.invariant.settings) c.deref-in-windows.ensures.value c.in-Some.ensures.least in (
      s,
      nothing_of c.args.fabric.settings,
      subst (λ (x : Settings). Going (task_of s (nothing_of c.args.fabric.settings) x c.args.journal c.args.outs.now) c.in-Some.window l.run.first l.fabric (walk_at (seen l.depot) l.ins l.run.shelves.items l.budget) l.run.done (pending l.run.pages)) (sym l.invariant.settings)
          (going_next c.laws_of_runs.ensures k l.invariant.v c.in-Some.window l.run.first l.fabric (seen l.depot) l.ins l.run.shelves.items l.budget l.run.done (pending l.run.pages) l.invariant.going next),
    )

pub run_window-requires-clause-next : goal.run_window-requires-clause-next
run_window-requires-clause-next g c = λ κs within.
    next_as c.config-in-windows.result.now c.windows.fabric.settings c.deref-in-windows.result.now c.windows.run.shelves.items (Some c.in-Some.window) c.config-in-windows.ensures c.deref-in-windows.ensures.value c.in-Some.ensures.least

pub run_window-requires-clause-start : goal.run_window-requires-clause-start
run_window-requires-clause-start g c = λ κs within. ap (λ (x : Settings). c.in-Some.window % x.window) (sym c.config-in-windows.ensures) ∙ c.in-Some.ensures.start

pub run_window-requires-clause-range : goal.run_window-requires-clause-range
run_window-requires-clause-range g c = λ κs within.
    let seen = g.D.Depot.seen in
    let s : Start = start_at (seen c.args.depot.now) c.args.ins.now c.args.budget.now in
    let k = task_of s (nothing_of c.args.fabric.settings) c.args.fabric.settings c.args.journal c.args.outs.now in
    let l = c.windows in
    let next = next_as c.config-in-windows.result.now c.args.fabric.settings c.deref-in-windows.result.now l.run.shelves.items (Some c.in-Some.window) (c.config-in-windows.ensures ∙ l.invariant.settings) c.deref-in-windows.ensures.value c.in-Some.ensures.least in
    next_early c.laws_of_runs.ensures k l.invariant.v c.in-Some.window l.run.first l.fabric (seen l.depot) l.ins l.run.shelves.items l.budget l.run.done (pending l.run.pages) l.invariant.going next

pub run_window-requires-clause-pages : goal.run_window-requires-clause-pages
run_window-requires-clause-pages g c = λ κs within. c.windows.invariant.pages

pub returns-in_err-fabric : goal.returns-in_err-fabric
returns-in_err-fabric g c =
    let seen = g.D.Depot.seen in
    let s : Start = start_at (seen c.args.depot.now) c.args.ins.now c.args.budget.now in
    let k = task_of s (nothing_of c.args.fabric.settings) c.args.fabric.settings c.args.journal c.args.outs.now in
    let l = c.windows in
    let e = c.in_err-fabric.field-0.0 in
    let next = next_as c.config-in-windows.result.now c.args.fabric.settings c.deref-in-windows.result.now l.run.shelves.items (Some c.in-Some.window) (c.config-in-windows.ensures ∙ l.invariant.settings) c.deref-in-windows.ensures.value c.in-Some.ensures.least in
    let going = subst (λ (x : Settings). Going (task_of s (nothing_of c.args.fabric.settings) x c.args.journal c.args.outs.now) c.in-Some.window l.run.first l.fabric (walk_at (seen l.depot) l.ins l.run.shelves.items l.budget) l.run.done (pending l.run.pages)) (sym l.invariant.settings)
    (going_next c.laws_of_runs.ensures k l.invariant.v c.in-Some.window l.run.first l.fabric (seen l.depot) l.ins l.run.shelves.items l.budget l.run.done (pending l.run.pages) l.invariant.going next) in
    record {
      runs = subst (λ r. Runs c.args.fabric.settings (start_at (seen c.args.depot.now) c.args.ins.now c.args.budget.now) (seen c.run_window.new.depot) (file_slots c.args.journal c.args.outs.now) r)
          (err_is c.from_residual-in_err-fabric.result e c.from_residual-in_err-fabric.ensures.1)
          (runs_are c.args.fabric.settings s (seen c.run_window.new.depot) (file_slots c.args.journal c.args.outs.now) (Err e)
          (subst (λ (x : Settings). Ended (task_of s (nothing_of c.args.fabric.settings) x c.args.journal c.args.outs.now) (seen c.run_window.new.depot) e) l.invariant.settings (c.in_err-fabric.ensures.runs s (nothing_of c.args.fabric.settings) going)));
      takes = takes_then c.args.ins.now l.ins c.run_window.new.ins c.args.budget.now l.budget c.run_window.new.budget l.invariant.takes c.in_err-fabric.ensures.takes;
    }

pub windows-smaller : goal.windows-smaller
windows-smaller g c =
    let seen = g.D.Depot.seen in
    let s : Start = start_at (seen c.args.depot.now) c.args.ins.now c.args.budget.now in
    let k = task_of s (nothing_of c.args.fabric.settings) c.args.fabric.settings c.args.journal c.args.outs.now in
    let l = c.windows in
    let next = next_as c.config-in-windows.result.now c.args.fabric.settings c.deref-in-windows.result.now l.run.shelves.items (Some c.in-Some.window) (c.config-in-windows.ensures ∙ l.invariant.settings) c.deref-in-windows.ensures.value c.in-Some.ensures.least in
    let going = going_next c.laws_of_runs.ensures k l.invariant.v c.in-Some.window l.run.first l.fabric (seen l.depot) l.ins l.run.shelves.items l.budget l.run.done (pending l.run.pages) l.invariant.going next in
    let early = next_early c.laws_of_runs.ensures k l.invariant.v c.in-Some.window l.run.first l.fabric (seen l.depot) l.ins l.run.shelves.items l.budget l.run.done (pending l.run.pages) l.invariant.going next in
    nearer (2 ^ 43) c.in-Some.window l.fabric.state.tables.clock c.in_ok-fabric.fabric.state.tables.clock going.reached.clock early c.in_ok-fabric.ensures.clock

pub windows-preserved : goal.windows-preserved
windows-preserved g c =
    let seen = g.D.Depot.seen in
    let s : Start = start_at (seen c.args.depot.now) c.args.ins.now c.args.budget.now in
    let k = task_of s (nothing_of c.args.fabric.settings) c.args.fabric.settings c.args.journal c.args.outs.now in
    let l = c.windows in
    let next = next_as c.config-in-windows.result.now c.args.fabric.settings c.deref-in-windows.result.now l.run.shelves.items (Some c.in-Some.window) (c.config-in-windows.ensures ∙ l.invariant.settings) c.deref-in-windows.ensures.value c.in-Some.ensures.least in
    let going = subst (λ (x : Settings). Going (task_of s (nothing_of c.args.fabric.settings) x c.args.journal c.args.outs.now) c.in-Some.window l.run.first l.fabric (walk_at (seen l.depot) l.ins l.run.shelves.items l.budget) l.run.done (pending l.run.pages)) (sym l.invariant.settings)
    (going_next c.laws_of_runs.ensures k l.invariant.v c.in-Some.window l.run.first l.fabric (seen l.depot) l.ins l.run.shelves.items l.budget l.run.done (pending l.run.pages) l.invariant.going next) in
    record {
      v = c.in-Some.window + 1;
      going = subst (λ (x : Settings). Going (task_of s (nothing_of c.args.fabric.settings) x c.args.journal c.args.outs.now) (c.in-Some.window + 1) c.run_window.new.run.first c.in_ok-fabric.fabric (walk_at (seen c.run_window.new.depot) c.run_window.new.ins c.run_window.new.run.shelves.items c.run_window.new.budget) c.run_window.new.run.done (pending c.run_window.new.run.pages)) l.invariant.settings
          (c.in_ok-fabric.ensures.runs s (nothing_of c.args.fabric.settings) going);
      settings = c.in_ok-fabric.ensures.settings ∙ l.invariant.settings;
      pages = c.in_ok-fabric.ensures.pages;
      takes = takes_then c.args.ins.now l.ins c.run_window.new.ins c.args.budget.now l.budget c.run_window.new.budget l.invariant.takes c.in_ok-fabric.ensures.takes;
    }

pub finish-requires-clause-count : goal.finish-requires-clause-count
finish-requires-clause-count g c = sym c.windows.invariant.pages

pub finish-requires-clause-files : goal.finish-requires-clause-files
finish-requires-clause-files g c =
    let seen = g.D.Depot.seen in
    let s : Start = start_at (seen c.args.depot.now) c.args.ins.now c.args.budget.now in
    let k = task_of s (nothing_of c.args.fabric.settings) c.args.fabric.settings c.args.journal c.args.outs.now in
    let l = c.windows in
    files_now c.laws_of_runs.ensures k l.invariant.v l.run.first l.fabric (seen l.depot) l.ins l.run.shelves.items l.budget l.invariant.going.reached

pub returns : goal.returns
returns g c =
    let seen = g.D.Depot.seen in
    let s : Start = start_at (seen c.args.depot.now) c.args.ins.now c.args.budget.now in
    let k = task_of s (nothing_of c.args.fabric.settings) c.args.fabric.settings c.args.journal c.args.outs.now in
    let l = c.windows in
    let next = next_as c.config-in-windows.result.now c.args.fabric.settings c.deref-in-windows.result.now l.run.shelves.items None (c.config-in-windows.ensures ∙ l.invariant.settings) c.deref-in-windows.ensures.value c.in_default.ensures.least in
    record {
      runs = runs_are c.args.fabric.settings s (seen c.finish.new.depot) (file_slots c.args.journal c.args.outs.now) c.finish.result
          (ended_by c.laws_of_runs.ensures k l.invariant.v l.run.first l.fabric (seen l.depot) l.ins l.run.shelves.items l.budget l.run.done (pending l.run.pages) l.invariant.going next (seen c.finish.new.depot) c.finish.result c.finish.ensures);
      takes = l.invariant.takes;
    }
