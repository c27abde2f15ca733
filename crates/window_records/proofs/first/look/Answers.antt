use Rattle.pcap_file.specs.Reading.{reader_stand}
use Rattle.std.proofs.Common.{Err, refl, sym, subst}
use Rattle.window_records.specs.First.{LooksOnce}
use Rattle.window_records.proofs.LookLemmas.{looked, looked_failed, count_is}
use Rattle.window_records.proofs.first.look.Goals as goal

pub returns-in-Ok-clause-looks : goal.returns-in-Ok-clause-looks
returns-in-Ok-clause-looks g c = λ s.
    let seen = g.D.Depot.seen in
    looked c.looks_go_on.ensures.found c.looks_go_on.ensures.end c.steps_find_the_stop.ensures.steps s c.args.port c.args.input.now.slot (seen c.args.depot.now) (seen c.next.new.depot) c.args.input.now.reader c.next.new.self c.args.budget.now c.next.new.budget
    c.requires.fresh c.frames_left-few.ensures c.in-Ok.next _ refl (count_is c.in-Ok.next c.is_some.result c.from.result c.is_some.ensures c.from.ensures) c.in-Ok.ensures.next

pub returns-in-Err-clause-looks : goal.returns-in-Err-clause-looks
returns-in-Err-clause-looks g c = λ s.
    let seen = g.D.Depot.seen in
    subst (λ e. LooksOnce s c.args.port c.args.input.now.slot (reader_stand (seen c.args.depot.now) c.args.input.now.reader c.args.budget.now) (reader_stand (seen c.next.new.depot) c.next.new.self c.next.new.budget) (Err e)) (sym c.fault_of.ensures)
    (looked_failed c.looks_go_on.ensures.found c.looks_go_on.ensures.end c.steps_find_the_stop.ensures.steps s c.args.port c.args.input.now.slot (seen c.args.depot.now) (seen c.next.new.depot) c.args.input.now.reader c.next.new.self c.args.budget.now c.next.new.budget
    c.requires.fresh c.frames_left-few.ensures c.in-Err.error c.in-Err.ensures.next)
