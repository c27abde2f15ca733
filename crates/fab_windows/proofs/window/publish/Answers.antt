use Rattle.std.proofs.Common.{◌∙◌, ap, sym, subst, Err, arith}
use Rattle.fab_pages.specs.Pages.{sents_of}
use Rattle.fab_policy.specs.Growing.{lines_from}
use Rattle.run_files.specs.declared.fault.RunFault.TheVariants as fault
use Rattle.fab_windows.specs.Pages.{pending}
use Rattle.fab_windows.specs.Turns.{Publishes, paged_at}
use Rattle.fab_windows.proofs.PublishLemmas.{publishes_nothing, publishes_later, publishes_all, publishes_front, short_not_full, short_nothing}
use Rattle.fab_windows.proofs.ResultLemmas.{err_is}
use Rattle.fab_windows.specs.Files.{file_slots}
use Rattle.fab_windows.proofs.window.publish.Goals as goal

pub returns-in_err-add-clause-publishes : goal.returns-in_err-add-clause-publishes
returns-in_err-add-clause-publishes g c =
    let d = g.D.Depot.seen c.args.depot.now in
    let lines = lines_from c.args.clock c.args.sendings.now.drained.now.events in
    let sents = sents_of c.args.sendings.now in
    let p = pending c.args.pages.now in
    subst (Publishes (file_slots c.args.slots.now.journal c.args.slots.now.outs.now) lines sents (paged_at d p) (paged_at d (pending c.add.new.self))) (err_is c.from_residual.result fault.Memory c.from_residual.ensures.1)
    (publishes_nothing c.args.slots.now.journal c.args.slots.now.outs.now lines sents p d (pending c.add.new.self))

pub returns-then-not-are_full-clause-publishes : goal.returns-then-not-are_full-clause-publishes
returns-then-not-are_full-clause-publishes g c =
    let f = c.in_ok-add.ensures in
    publishes_later c.args.slots.now.journal c.args.slots.now.outs.now (lines_from c.args.clock c.args.sendings.now.drained.now.events) (sents_of c.args.sendings.now) (pending c.args.pages.now) (g.D.Depot.seen c.args.depot.now)
    (pending c.add.new.self) f.lines (λ q lt. f.records q (omega (arith, lt, c.requires.count)))

pub returns-in_err-flush-clause-publishes : goal.returns-in_err-flush-clause-publishes
returns-in_err-flush-clause-publishes g c =
    let a = g.D.Depot.seen c.args.depot.now in
    let b = g.D.Depot.seen c.flush.new.depot in
    let lines = lines_from c.args.clock c.args.sendings.now.drained.now.events in
    let sents = sents_of c.args.sendings.now in
    let f = c.in_ok-add.ensures in
    let w = c.in_err-flush.ensures in
    let p = pending c.args.pages.now in
    let p' = pending c.flush.new.pages in
    subst (Publishes (file_slots c.args.slots.now.journal c.args.slots.now.outs.now) lines sents (paged_at a p) (paged_at b p'))
    (ap (λ e. Err e) (sym w.fault) ∙ err_is c.from_residual-in_err-flush.result c.in_err-flush.field-0.0 c.from_residual-in_err-flush.ensures.1)
    (publishes_front c.args.slots.now.journal c.args.slots.now.outs.now lines sents p a (pending c.add.new.self) f.lines (λ q lt. f.records q (omega (arith, lt, c.requires.count))) b p' w.writes.0 w.writes.1)

pub returns-clause-publishes : goal.returns-clause-publishes
returns-clause-publishes g c =
    let f = c.in_ok-add.ensures in
    let w = c.in_ok-flush.ensures in
    publishes_all c.args.slots.now.journal c.args.slots.now.outs.now (lines_from c.args.clock c.args.sendings.now.drained.now.events) (sents_of c.args.sendings.now) (pending c.args.pages.now) (g.D.Depot.seen c.args.depot.now)
    (pending c.add.new.self) f.lines (λ q lt. f.records q (omega (arith, lt, c.requires.count))) (g.D.Depot.seen c.flush.new.depot) (pending c.flush.new.pages) w.nothing w.writes

pub returns-then-not-are_full-clause-short : goal.returns-then-not-are_full-clause-short
returns-then-not-are_full-clause-short g c = short_not_full c.add.new.self (sym c.are_full.ensures ∙ c.if-not-are_full.true)

pub returns-clause-short : goal.returns-clause-short
returns-clause-short g c = short_nothing (pending c.flush.new.pages) c.in_ok-flush.ensures.nothing
