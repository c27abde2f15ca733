use Rattle.std.proofs.Common.{◌≡◌, ◌∙◌, sym, subst, Ok, Err, refl}
use Rattle.std.specs.Result.{IsErrAnd}
use Rattle.run_files.specs.declared.fault.RunFault.TheVariants as fault
use Rattle.window_records.proofs.FirstLemmas.{any}
use Rattle.window_records.proofs.LeavesLemmas.{takes_none}
use Rattle.run_files.specs.Faults.{fault_from}
use Rattle.run_files.specs.Pages.{items_in}
use Rattle.fab_windows.specs.Files.{Writes}
use Rattle.fab_windows.specs.From.{nothing_of}
use Rattle.fab_windows.specs.Turns.{task_of}
use Rattle.fab_windows.proofs.BeginLemmas.{ended_at_once, ended_heads, ended_looks, begun, inputs_heads}
use Rattle.fab_windows.proofs.ResultLemmas.{told_on, not_ok}
use Rattle.window_records.specs.First.{start_at}
use Rattle.fab_windows.proofs.run.begin.Goals as goal

pub flush-requires-clause-count : goal.flush-requires-clause-count
flush-requires-clause-count g c = sym c.in_ok-pages.ensures.count

pub flush-requires-clause-files : goal.flush-requires-clause-files
flush-requires-clause-files g c = c.requires.given.files

pub first_looks-requires-clause-ports : goal.first_looks-requires-clause-ports
first_looks-requires-clause-ports g c = c.requires.ports.1

pub first_looks-requires-clause-inputs : goal.first_looks-requires-clause-inputs
first_looks-requires-clause-inputs g c =
    let seen = g.D.Depot.seen in
    inputs_heads (seen c.args.depot.now) c.args.ins.now c.args.slots.now.journal c.args.slots.now.outs.now c.requires.given (seen c.flush.new.depot) c.in_ok-flush.ensures.writes

pub first_looks-requires-clause-fresh : goal.first_looks-requires-clause-fresh
first_looks-requires-clause-fresh g c = c.requires.given.fresh

pub returns-in_err-pages-clause-begins : goal.returns-in_err-pages-clause-begins
returns-in_err-pages-clause-begins g c = λ s.
    let k = task_of (start_at (g.D.Depot.seen c.args.depot.now) c.args.ins.now c.args.budget.now) (nothing_of s) s c.args.slots.now.journal c.args.slots.now.outs.now in
    told_on c.from_residual.result fault.Memory _ _ c.from_residual.ensures.1 (ended_at_once c.laws_of_runs.ensures k c.requires.given)

pub returns-in_err-pages-clause-pages : goal.returns-in_err-pages-clause-pages
returns-in_err-pages-clause-pages g c = not_ok c.from_residual.result fault.Memory _ c.from_residual.ensures.1

pub returns-in_err-pages-clause-nothing : goal.returns-in_err-pages-clause-nothing
returns-in_err-pages-clause-nothing g c = not_ok c.from_residual.result fault.Memory _ c.from_residual.ensures.1

pub returns-in_err-pages-clause-done : goal.returns-in_err-pages-clause-done
returns-in_err-pages-clause-done g c = not_ok c.from_residual.result fault.Memory _ c.from_residual.ensures.1

pub returns-in_err-flush-clause-begins : goal.returns-in_err-flush-clause-begins
returns-in_err-flush-clause-begins g c = λ s.
    let seen = g.D.Depot.seen in
    let k = task_of (start_at (seen c.args.depot.now) c.args.ins.now c.args.budget.now) (nothing_of s) s c.args.slots.now.journal c.args.slots.now.outs.now in
    let pieces = items_in c.in_ok-pages.pages.records.items in
    let w = c.in_err-flush.ensures in
    told_on c.from_residual-in_err-flush.result fault.Write _ _ (subst (λ x. IsErrAnd c.from_residual-in_err-flush.result (λ y. y ≡ x)) w.fault c.from_residual-in_err-flush.ensures.1)
    (ended_heads c.laws_of_runs.ensures k c.requires.given pieces c.in_ok-pages.ensures.records (seen c.flush.new.depot) w.writes.0
    (subst (λ l. Writes c.args.slots.now.journal c.args.slots.now.outs.now l pieces (seen c.args.depot.now) (seen c.flush.new.depot) (Err w.writes.0)) c.in_ok-pages.ensures.lines w.writes.1))

pub returns-in_err-flush-clause-pages : goal.returns-in_err-flush-clause-pages
returns-in_err-flush-clause-pages g c = not_ok c.from_residual-in_err-flush.result c.in_err-flush.field-0.0 _ c.from_residual-in_err-flush.ensures.1

pub returns-in_err-flush-clause-done : goal.returns-in_err-flush-clause-done
returns-in_err-flush-clause-done g c = not_ok c.from_residual-in_err-flush.result c.in_err-flush.field-0.0 _ c.from_residual-in_err-flush.ensures.1

pub returns-in_err-flush-clause-nothing : goal.returns-in_err-flush-clause-nothing
returns-in_err-flush-clause-nothing g c = not_ok c.from_residual-in_err-flush.result c.in_err-flush.field-0.0 _ c.from_residual-in_err-flush.ensures.1

pub returns-in_err-shelves-clause-begins : goal.returns-in_err-shelves-clause-begins
returns-in_err-shelves-clause-begins g c = λ s.
    let seen = g.D.Depot.seen in
    let k = task_of (start_at (seen c.args.depot.now) c.args.ins.now c.args.budget.now) (nothing_of s) s c.args.slots.now.journal c.args.slots.now.outs.now in
    let pieces = items_in c.in_ok-pages.pages.records.items in
    let e = c.in_err-shelves.field-0.0 in
    told_on c.from_residual-in_err-shelves.result (fault_from e) _ _ c.from_residual-in_err-shelves.ensures.1
    (ended_looks c.laws_of_runs.ensures k c.requires.given pieces c.in_ok-pages.ensures.records (seen c.flush.new.depot)
    (subst (λ l. Writes c.args.slots.now.journal c.args.slots.now.outs.now l pieces (seen c.args.depot.now) (seen c.flush.new.depot) (Ok tt)) c.in_ok-pages.ensures.lines c.in_ok-flush.ensures.writes)
    (seen c.first_looks.new.depot) c.first_looks.new.ins c.first_looks.new.budget e (c.in_err-shelves.ensures.looks s))

pub returns-in_err-shelves-clause-pages : goal.returns-in_err-shelves-clause-pages
returns-in_err-shelves-clause-pages g c = not_ok c.from_residual-in_err-shelves.result (fault_from c.in_err-shelves.field-0.0) _ c.from_residual-in_err-shelves.ensures.1

pub returns-in_err-shelves-clause-nothing : goal.returns-in_err-shelves-clause-nothing
returns-in_err-shelves-clause-nothing g c = not_ok c.from_residual-in_err-shelves.result (fault_from c.in_err-shelves.field-0.0) _ c.from_residual-in_err-shelves.ensures.1

pub returns-in_err-shelves-clause-done : goal.returns-in_err-shelves-clause-done
returns-in_err-shelves-clause-done g c = not_ok c.from_residual-in_err-shelves.result (fault_from c.in_err-shelves.field-0.0) _ c.from_residual-in_err-shelves.ensures.1

pub returns-clause-begins : goal.returns-clause-begins
returns-clause-begins g c = λ s.
    let seen = g.D.Depot.seen in
    let k = task_of (start_at (seen c.args.depot.now) c.args.ins.now c.args.budget.now) (nothing_of s) s c.args.slots.now.journal c.args.slots.now.outs.now in
    let pieces = items_in c.in_ok-pages.pages.records.items in
    begun c.laws_of_runs.ensures k c.requires.given pieces c.in_ok-pages.ensures.records (seen c.flush.new.depot)
    (subst (λ l. Writes c.args.slots.now.journal c.args.slots.now.outs.now l pieces (seen c.args.depot.now) (seen c.flush.new.depot) (Ok tt)) c.in_ok-pages.ensures.lines c.in_ok-flush.ensures.writes)
    (seen c.first_looks.new.depot) c.first_looks.new.ins c.first_looks.new.budget c.in_ok-shelves.shelves c.requires.ports c.requires.outputs c.bytes_left-few.ensures (c.in_ok-shelves.ensures.looks s)

pub returns-clause-pages : goal.returns-clause-pages
returns-clause-pages g c = c.in_ok-flush.ensures.count ∙ c.in_ok-pages.ensures.count

pub returns-clause-nothing : goal.returns-clause-nothing
returns-clause-nothing g c = c.in_ok-flush.ensures.nothing

pub returns-clause-done : goal.returns-clause-done
returns-clause-done g c = (refl, refl)

pub returns-in_err-pages-clause-takes : goal.returns-in_err-pages-clause-takes
returns-in_err-pages-clause-takes g c = takes_none c.args.ins.now c.args.budget.now

pub returns-in_err-flush-clause-takes : goal.returns-in_err-flush-clause-takes
returns-in_err-flush-clause-takes g c = takes_none c.args.ins.now c.args.budget.now

pub returns-in_err-shelves-clause-takes : goal.returns-in_err-shelves-clause-takes
returns-in_err-shelves-clause-takes g c = (c.in_err-shelves.ensures.looks any).takes

pub returns-clause-takes : goal.returns-clause-takes
returns-clause-takes g c = (c.in_ok-shelves.ensures.looks any).takes
