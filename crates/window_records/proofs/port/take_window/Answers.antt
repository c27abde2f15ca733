use Rattle.std.proofs.Common.{sym, subst, refl, Err}
use Rattle.window_records.specs.Port.{TakesWindow, port_walk_at}
use Rattle.window_records.proofs.PortLemmas.{taking_none, taking_pushed, taking_lost, push_fits, taking_failed, there, next_at}
use Rattle.window_records.proofs.port.take_window.Goals as goal

pub records-init : goal.records-init
records-init g c = record { slot = refl; taking = taking_none c.args.config.now c.args.port c.args.window c.args.input.now.slot _ c.args.input.now.reader c.args.shelf.now _ c.args.budget.now c.clear.ensures.items refl refl c.requires.ready }

pub push_record-requires : goal.push_record-requires
push_record-requires g c =
    let seen = g.D.Depot.seen in
    let i = c.records.invariant in
    push_fits c.looks_go_on.ensures.found c.looks_go_on.ensures.end c.steps_find_the_stop.ensures.steps c.args.config.now c.args.port c.args.window c.args.input.now.slot (seen c.args.depot.now) (seen c.records.depot) (seen c.next.new.depot) c.args.input.now.reader c.records.input.reader c.next.new.self
    c.args.shelf.now c.records.shelf c.args.budget.now c.records.budget c.next.new.budget c.requires.input i.taking (there c.args.config.now c.args.window c.records.shelf.next (sym c.records-test.ensures)) c.in-Ok.next (next_at i.slot c.in-Ok.ensures.next)

pub records-preserved : goal.records-preserved
records-preserved g c =
    let seen = g.D.Depot.seen in
    let i = c.records.invariant in
    record {
      slot = i.slot;
      taking =
          taking_pushed c.looks_go_on.ensures.found c.looks_go_on.ensures.end c.steps_find_the_stop.ensures.steps c.args.config.now c.args.port c.args.window c.args.input.now.slot (seen c.args.depot.now) (seen c.records.depot) (seen c.next.new.depot) c.args.input.now.reader c.records.input.reader c.next.new.self
          c.args.shelf.now c.records.shelf c.args.budget.now c.records.budget c.next.new.budget c.requires.input i.taking (there c.args.config.now c.args.window c.records.shelf.next (sym c.records-test.ensures)) c.in-Ok.next
          c.push_record.new.self c.in-Ok-push_record.ensures.batch c.in-Ok-push_record.ensures.next c.in-Ok-push_record.ensures.count (next_at i.slot c.in-Ok.ensures.next);
    }

pub returns-in-Err-clause-takes : goal.returns-in-Err-clause-takes
returns-in-Err-clause-takes g c =
    let seen = g.D.Depot.seen in
    let i = c.records.invariant in
    let failed = taking_failed c.looks_go_on.ensures.found c.looks_go_on.ensures.end c.steps_find_the_stop.ensures.steps c.args.config.now c.args.port c.args.window c.args.input.now.slot (seen c.args.depot.now) (seen c.records.depot) (seen c.next.new.depot) c.args.input.now.reader c.records.input.reader c.next.new.self
    c.args.shelf.now c.records.shelf c.args.budget.now c.records.budget c.next.new.budget c.requires.input i.taking (there c.args.config.now c.args.window c.records.shelf.next (sym c.records-test.ensures))
    c.next.new.self c.in-Err.error (next_at i.slot c.in-Err.ensures.next) in
    subst (λ e. TakesWindow c.args.config.now c.args.port c.args.window c.args.input.now.slot (port_walk_at (seen c.args.depot.now) c.args.input.now.reader c.args.shelf.now c.args.budget.now) (port_walk_at (seen c.next.new.depot) c.next.new.self c.records.shelf c.next.new.budget) (Err e)) (sym c.fault_of.ensures) failed

pub returns-in-Err-push_record-clause-takes : goal.returns-in-Err-push_record-clause-takes
returns-in-Err-push_record-clause-takes g c =
    let seen = g.D.Depot.seen in
    let i = c.records.invariant in
    taking_lost c.looks_go_on.ensures.found c.looks_go_on.ensures.end c.steps_find_the_stop.ensures.steps c.args.config.now c.args.port c.args.window c.args.input.now.slot (seen c.args.depot.now) (seen c.records.depot) (seen c.next.new.depot) c.args.input.now.reader c.records.input.reader c.next.new.self
    c.args.shelf.now c.records.shelf c.args.budget.now c.records.budget c.next.new.budget c.requires.input i.taking (there c.args.config.now c.args.window c.records.shelf.next (sym c.records-test.ensures))
    c.in-Ok.next c.push_record.new.self c.in-Err-push_record.ensures.kept c.in-Err-push_record.ensures.next c.in-Err-push_record.ensures.count (next_at i.slot c.in-Ok.ensures.next)
