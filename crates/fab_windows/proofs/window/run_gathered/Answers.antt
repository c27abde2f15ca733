use Rattle.std.proofs.Common.{◌∙◌, ap, sym, subst, length, arith}
use Rattle.std.specs.Prelude.{unwrap_or}
use Rattle.run_files.specs.declared.fault.RunFault.TheVariants as fault
use Rattle.fab_windows.specs.Pages.{pending}
use Rattle.fab_windows.specs.Turns.{task_of, Handles}
use Rattle.fab_windows.proofs.GoLemmas.{settings_kept, clock_there, gathered_ports, gathered_files, gathered_refused, gathered_early, gathered_room, gathered_unwritten, gathered_done}
use Rattle.fab_windows.proofs.ResultLemmas.{told_on, not_ok}
use Rattle.fab_windows.proofs.window.run_gathered.Goals as goal

pub drain_window-requires-clause-order : goal.drain_window-requires-clause-order
drain_window-requires-clause-order g c = λ κs within. c.requires.gathered.4.going.reached.clock

pub drain_window-requires-clause-ports : goal.drain_window-requires-clause-ports
drain_window-requires-clause-ports g c = λ κs within.
    let x = c.requires.gathered.4 in
    let k = task_of c.requires.gathered.0 c.requires.gathered.1 c.args.fabric.settings c.args.slots.now.journal c.args.slots.now.outs.now in
    x.going.reached.sofar.count
    ∙ sym (gathered_ports c.laws_of_runs.ensures k c.args.window c.args.run.now.first c.args.fabric (g.D.Depot.seen c.args.depot.now) c.requires.gathered.2 c.args.run.now.shelves.items c.requires.gathered.3 c.args.run.now.done (pending c.args.run.now.pages) x)
    ∙ sym (ap length c.deref.ensures.value)

pub drain_window-requires-clause-few : goal.drain_window-requires-clause-few
drain_window-requires-clause-few g c = λ κs within.
    let x = c.requires.gathered.4 in
    let k = task_of c.requires.gathered.0 c.requires.gathered.1 c.args.fabric.settings c.args.slots.now.journal c.args.slots.now.outs.now in
    let ports = gathered_ports c.laws_of_runs.ensures k c.args.window c.args.run.now.first c.args.fabric (g.D.Depot.seen c.args.depot.now) c.requires.gathered.2 c.args.run.now.shelves.items c.requires.gathered.3 c.args.run.now.done (pending c.args.run.now.pages) x in
    omega (arith, ap length c.deref.ensures.value, ports, x.going.reached.ports.1)

pub publish-requires-clause-files : goal.publish-requires-clause-files
publish-requires-clause-files g c = λ κs within.
    let x = c.requires.gathered.4 in
    let k = task_of c.requires.gathered.0 c.requires.gathered.1 c.args.fabric.settings c.args.slots.now.journal c.args.slots.now.outs.now in
    gathered_files c.laws_of_runs.ensures k c.args.window c.args.run.now.first c.args.fabric (g.D.Depot.seen c.args.depot.now) c.requires.gathered.2 c.args.run.now.shelves.items c.requires.gathered.3 c.args.run.now.done (pending c.args.run.now.pages) x

pub publish-requires-clause-count : goal.publish-requires-clause-count
publish-requires-clause-count g c = λ κs within. c.requires.pages

pub publish-requires-clause-ranged : goal.publish-requires-clause-ranged
publish-requires-clause-ranged g c = λ κs within. c.in_ok-fabric.ensures.handles.ranged

pub publish-requires-clause-early : goal.publish-requires-clause-early
publish-requires-clause-early g c = λ κs within.
    let x = c.requires.gathered.4 in
    let k = task_of c.requires.gathered.0 c.requires.gathered.1 c.args.fabric.settings c.args.slots.now.journal c.args.slots.now.outs.now in
    let shelves = c.args.run.now.shelves.items in
    let E = c.in_ok-fabric.fabric in
    let d = c.in_ok-fabric.drained in
    let h = subst (λ l. Handles c.args.window l c.args.fabric E d.events d.outs) c.deref.ensures.value c.in_ok-fabric.ensures.handles in
    gathered_early c.laws_of_runs.ensures k c.args.window c.args.run.now.first c.args.fabric (g.D.Depot.seen c.args.depot.now) c.requires.gathered.2 shelves c.requires.gathered.3 c.args.run.now.done (pending c.args.run.now.pages) x E d.events d.outs h c.requires.range

pub done_after-run-requires : goal.done_after-run-requires
done_after-run-requires g c =
    let x = c.requires.gathered.4 in
    let k = task_of c.requires.gathered.0 c.requires.gathered.1 c.args.fabric.settings c.args.slots.now.journal c.args.slots.now.outs.now in
    let shelves = c.args.run.now.shelves.items in
    let E = c.in_ok-fabric.fabric in
    let d = c.in_ok-fabric.drained in
    let h = subst (λ l. Handles c.args.window l c.args.fabric E d.events d.outs) c.deref.ensures.value c.in_ok-fabric.ensures.handles in
    record { room = gathered_room c.laws_of_runs.ensures k c.args.window c.args.run.now.first c.args.fabric (g.D.Depot.seen c.args.depot.now) c.requires.gathered.2 shelves c.requires.gathered.3 c.args.run.now.done (pending c.args.run.now.pages) x E d.events d.outs h c.requires.range }

pub returns-in_err-fabric-clause-runs : goal.returns-in_err-fabric-clause-runs
returns-in_err-fabric-clause-runs g c = λ s o ins left x.
    let k = task_of s o c.args.fabric.settings c.args.slots.now.journal c.args.slots.now.outs.now in
    told_on c.from_residual.result fault.Memory _ _ c.from_residual.ensures.1
    (gathered_refused c.laws_of_runs.ensures k c.args.window c.args.run.now.first c.args.fabric (g.D.Depot.seen c.args.depot.now) ins c.args.run.now.shelves.items left c.args.run.now.done (pending c.args.run.now.pages) x)

pub returns-in_err-fabric-clause-pages : goal.returns-in_err-fabric-clause-pages
returns-in_err-fabric-clause-pages g c = not_ok c.from_residual.result fault.Memory _ c.from_residual.ensures.1

pub returns-in_err-fabric-clause-settings : goal.returns-in_err-fabric-clause-settings
returns-in_err-fabric-clause-settings g c = not_ok c.from_residual.result fault.Memory _ c.from_residual.ensures.1

pub returns-in_err-fabric-clause-clock : goal.returns-in_err-fabric-clause-clock
returns-in_err-fabric-clause-clock g c = not_ok c.from_residual.result fault.Memory _ c.from_residual.ensures.1

pub returns-in_err-publish-clause-runs : goal.returns-in_err-publish-clause-runs
returns-in_err-publish-clause-runs g c = λ s o ins left x.
    let k = task_of s o c.args.fabric.settings c.args.slots.now.journal c.args.slots.now.outs.now in
    let seen = g.D.Depot.seen in
    let d = c.in_ok-fabric.drained in
    let h = subst (λ l. Handles c.args.window l c.args.fabric c.in_ok-fabric.fabric d.events d.outs) c.deref.ensures.value c.in_ok-fabric.ensures.handles in
    let clock = c.unwrap_or-clock.ensures ∙ ap (λ o. unwrap_or o 0) c.clock.ensures in
    told_on c.from_residual-in_err-publish.result c.in_err-publish.field-0.0 _ _ c.from_residual-in_err-publish.ensures.1
    (gathered_unwritten c.laws_of_runs.ensures k c.args.window c.args.run.now.first c.args.fabric (seen c.args.depot.now) ins c.args.run.now.shelves.items left c.args.run.now.done (pending c.args.run.now.pages) x c.in_ok-fabric.fabric d.events d.outs h (seen c.publish.new.depot) (pending c.publish.new.pages)
    c.unwrap_or-clock.result clock c.config.result.now c.config.ensures c.in_err-publish.field-0.0 c.in_err-publish.ensures.publishes)

pub returns-in_err-publish-clause-pages : goal.returns-in_err-publish-clause-pages
returns-in_err-publish-clause-pages g c = not_ok c.from_residual-in_err-publish.result c.in_err-publish.field-0.0 _ c.from_residual-in_err-publish.ensures.1

pub returns-in_err-publish-clause-settings : goal.returns-in_err-publish-clause-settings
returns-in_err-publish-clause-settings g c = not_ok c.from_residual-in_err-publish.result c.in_err-publish.field-0.0 _ c.from_residual-in_err-publish.ensures.1

pub returns-in_err-publish-clause-clock : goal.returns-in_err-publish-clause-clock
returns-in_err-publish-clause-clock g c = not_ok c.from_residual-in_err-publish.result c.in_err-publish.field-0.0 _ c.from_residual-in_err-publish.ensures.1

pub returns-clause-runs : goal.returns-clause-runs
returns-clause-runs g c = λ s o ins left x.
    let k = task_of s o c.args.fabric.settings c.args.slots.now.journal c.args.slots.now.outs.now in
    let seen = g.D.Depot.seen in
    let d = c.in_ok-fabric.drained in
    let h = subst (λ l. Handles c.args.window l c.args.fabric c.in_ok-fabric.fabric d.events d.outs) c.deref.ensures.value c.in_ok-fabric.ensures.handles in
    let clock = c.unwrap_or-clock.ensures ∙ ap (λ o. unwrap_or o 0) c.clock.ensures in
    gathered_done c.laws_of_runs.ensures k c.args.window c.args.run.now.first c.args.fabric (seen c.args.depot.now) ins c.args.run.now.shelves.items left c.args.run.now.done (pending c.args.run.now.pages) x c.in_ok-fabric.fabric d.events d.outs h (seen c.publish.new.depot) (pending c.publish.new.pages)
    c.unwrap_or-clock.result clock c.config.result.now c.config.ensures c.done_after-run.result c.in_ok-publish.ensures.publishes c.done_after-run.ensures.frames c.done_after-run.ensures.entries

pub returns-clause-settings : goal.returns-clause-settings
returns-clause-settings g c =
    let d = c.in_ok-fabric.drained in
    settings_kept c.args.window c.deref.result.now c.args.fabric c.in_ok-fabric.fabric d.events d.outs c.in_ok-fabric.ensures.handles

pub returns-clause-clock : goal.returns-clause-clock
returns-clause-clock g c =
    let d = c.in_ok-fabric.drained in
    clock_there c.args.window c.deref.result.now c.args.fabric c.in_ok-fabric.fabric d.events d.outs c.in_ok-fabric.ensures.handles
