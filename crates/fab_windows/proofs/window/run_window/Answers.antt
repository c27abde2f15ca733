use Rattle.std.proofs.Common.{◌∙◌, ap, sym, subst, length, Some, Err, arith}
use Rattle.window_records.specs.First.{IsNextWindow}
use Rattle.window_records.specs.Ports.{AreReady}
use Rattle.window_records.proofs.SlotLemmas.{same_length}
use Rattle.fab_windows.specs.Pages.{FlushedFor, pending}
use Rattle.fab_windows.specs.Turns.{task_of}
use Rattle.fab_windows.proofs.GoLemmas.{gathers_as, gathered_by, window_ends, files_then}
use Rattle.fab_windows.proofs.TurnLemmas.{inputs_now}
use Rattle.fab_windows.proofs.window.run_window.Goals as goal

pub gather-requires-clause-count : goal.gather-requires-clause-count
gather-requires-clause-count g c = ap length c.deref_mut.ensures.value ∙ c.requires.going.2.reached.walked.count

pub gather-requires-clause-ports : goal.gather-requires-clause-ports
gather-requires-clause-ports g c =
    let k = task_of c.requires.going.0 c.requires.going.1 c.args.fabric.settings c.args.slots.now.journal c.args.slots.now.outs.now in
    let r = c.requires.going.2.reached in
    omega (arith, same_length k.ins c.args.ins.now r.walked.slots, r.ports.1)

pub gather-requires-clause-inputs : goal.gather-requires-clause-inputs
gather-requires-clause-inputs g c =
    let k = task_of c.requires.going.0 c.requires.going.1 c.args.fabric.settings c.args.slots.now.journal c.args.slots.now.outs.now in
    let r = c.requires.going.2.reached in
    inputs_now c.laws_of_runs.ensures k c.args.window c.args.run.now.first c.args.fabric (g.D.Depot.seen c.args.depot.now) c.args.ins.now c.args.run.now.shelves.items c.args.budget.now r

pub gather-requires-clause-ready : goal.gather-requires-clause-ready
gather-requires-clause-ready g c =
    subst (λ l. AreReady c.config.result.now c.args.window c.args.ins.now l c.args.budget.now) (sym c.deref_mut.ensures.value)
    (subst (λ s. AreReady s c.args.window c.args.ins.now c.args.run.now.shelves.items c.args.budget.now) (sym c.config.ensures) c.requires.going.2.reached.walked.ready)

pub gather-requires-clause-next : goal.gather-requires-clause-next
gather-requires-clause-next g c =
    subst (λ l. IsNextWindow c.config.result.now l (Some c.args.window)) (sym c.deref_mut.ensures.value)
    (subst (λ s. IsNextWindow s c.args.run.now.shelves.items (Some c.args.window)) (sym c.config.ensures) c.requires.next)

pub run_gathered-requires-clause-gathered : goal.run_gathered-requires-clause-gathered
run_gathered-requires-clause-gathered g c = λ κs within.
    let k = task_of c.requires.going.0 c.requires.going.1 c.args.fabric.settings c.args.slots.now.journal c.args.slots.now.outs.now in
    let seen = g.D.Depot.seen in (
      c.requires.going.0,
      c.requires.going.1,
      c.gather.new.ins,
      c.gather.new.budget,
      gathered_by k c.args.window c.args.run.now.first c.args.fabric (seen c.args.depot.now) c.args.ins.now c.args.run.now.shelves.items c.args.budget.now (seen c.gather.new.depot) c.gather.new.ins c.gather.new.shelves c.gather.new.budget
          c.config.result.now c.config.ensures c.deref_mut.result.now c.deref_mut.ensures.value c.args.run.now.done (pending c.args.run.now.pages) c.requires.going.2 c.requires.next c.args.run.now.shelves.len c.args.run.now.shelves.ok.0 c.in-Ok.ensures.gathers,
    )

pub run_gathered-requires-clause-start : goal.run_gathered-requires-clause-start
run_gathered-requires-clause-start g c = λ κs within. c.requires.start

pub run_gathered-requires-clause-range : goal.run_gathered-requires-clause-range
run_gathered-requires-clause-range g c = λ κs within. c.requires.range

pub run_gathered-requires-clause-pages : goal.run_gathered-requires-clause-pages
run_gathered-requires-clause-pages g c = λ κs within. c.requires.pages

pub flush_for-requires-clause-count : goal.flush_for-requires-clause-count
flush_for-requires-clause-count g c = sym c.requires.pages

pub flush_for-requires-clause-files : goal.flush_for-requires-clause-files
flush_for-requires-clause-files g c =
    let k = task_of c.requires.going.0 c.requires.going.1 c.args.fabric.settings c.args.slots.now.journal c.args.slots.now.outs.now in
    let seen = g.D.Depot.seen in
    let t = gathers_as k c.args.window c.args.run.now.first c.args.fabric (seen c.args.depot.now) c.args.ins.now c.args.run.now.shelves.items c.args.budget.now (seen c.gather.new.depot) c.gather.new.ins c.gather.new.shelves c.gather.new.budget
    c.config.result.now c.config.ensures c.deref_mut.result.now c.deref_mut.ensures.value (Err c.in-Err.fault) c.in-Err.ensures.gathers in
    files_then c.laws_of_runs.ensures k c.args.window c.args.run.now.first c.args.fabric (seen c.args.depot.now) c.args.ins.now c.args.run.now.shelves.items c.args.budget.now c.args.run.now.done (pending c.args.run.now.pages) c.requires.going.2 (seen c.gather.new.depot) t.uses

pub returns-in-Err-clause-runs : goal.returns-in-Err-clause-runs
returns-in-Err-clause-runs g c = λ s o going.
    let k = task_of s o c.args.fabric.settings c.args.slots.now.journal c.args.slots.now.outs.now in
    let seen = g.D.Depot.seen in
    let shelves = c.args.run.now.shelves.items in
    let e = c.in-Err.fault in
    window_ends c.laws_of_runs.ensures k c.args.window c.args.run.now.first c.args.fabric (seen c.args.depot.now) c.args.ins.now shelves c.args.budget.now c.args.run.now.done (pending c.args.run.now.pages) going (seen c.gather.new.depot) c.gather.new.ins c.gather.new.shelves c.gather.new.budget e
    (gathers_as k c.args.window c.args.run.now.first c.args.fabric (seen c.args.depot.now) c.args.ins.now shelves c.args.budget.now (seen c.gather.new.depot) c.gather.new.ins c.gather.new.shelves c.gather.new.budget
    c.config.result.now c.config.ensures c.deref_mut.result.now c.deref_mut.ensures.value (Err e) c.in-Err.ensures.gathers) (seen c.flush_for.new.depot) c.flush_for.result
    (subst (λ x. FlushedFor c.args.slots.now.journal c.args.slots.now.outs.now (pending c.args.run.now.pages) (seen c.gather.new.depot) (seen c.flush_for.new.depot) x c.flush_for.result) c.from-ending.ensures c.flush_for.ensures)

pub returns-in-Ok-clause-runs : goal.returns-in-Ok-clause-runs
returns-in-Ok-clause-runs g c = λ s o going.
    let k = task_of s o c.args.fabric.settings c.args.slots.now.journal c.args.slots.now.outs.now in
    let seen = g.D.Depot.seen in
    let shelves = c.args.run.now.shelves.items in
    c.run_gathered.ensures.runs s o c.gather.new.ins c.gather.new.budget
    (gathered_by k c.args.window c.args.run.now.first c.args.fabric (seen c.args.depot.now) c.args.ins.now shelves c.args.budget.now (seen c.gather.new.depot) c.gather.new.ins c.gather.new.shelves c.gather.new.budget
    c.config.result.now c.config.ensures c.deref_mut.result.now c.deref_mut.ensures.value c.args.run.now.done (pending c.args.run.now.pages) going c.requires.next c.args.run.now.shelves.len c.args.run.now.shelves.ok.0 c.in-Ok.ensures.gathers)

pub returns-in-Ok-clause-takes : goal.returns-in-Ok-clause-takes
returns-in-Ok-clause-takes g c = c.in-Ok.ensures.gathers.takes

pub returns-in-Err-clause-takes : goal.returns-in-Err-clause-takes
returns-in-Err-clause-takes g c = c.in-Err.ensures.gathers.takes
