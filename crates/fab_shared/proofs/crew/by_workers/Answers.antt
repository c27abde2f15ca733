use Rattle.std.proofs.Common.{◌≡◌, ◌<◌, List, All, length, get_or, rules, sym, ap, ◌∙◌, subst}
use Rattle.fab_shared.specs.Workers.{IsDone, HasWorkers}
use Rattle.fab_shared.specs.declared.worker.Worker.{Worker}
use Rattle.fab_shared.proofs.ClosingLemmas.{handled}
use Rattle.fab_shared.proofs.HiringLemmas.{out_same}
use Rattle.fab_shared.proofs.WorkerLemmas.{lent, stay}
use Rattle.fab_shared.proofs.crew.by_workers.Goals as goal

pub join_all-refused-requires-clause-workers : goal.join_all-refused-requires-clause-workers
join_all-refused-requires-clause-workers g c =
    let old = c.hire.new.workers.items in
    let new = c.work_all.new.workers in
    let same : c.as_mut_slice.result.now ≡ old = search rules in
    let len : length new ≡ length old = c.work_all.auto.workers ∙ ap (λ (ws : List Worker). length ws) same in
    subst (λ (ws : List Worker). HasWorkers c.hire.new.root ws) (sym (lent old new c.hire.new.workers.len c.hire.new.workers.ok.0 len))
    (stay c.hire.new.root old new c.hire.ensures.workers_are len
    (λ k d lt. c.work_all.ensures.ports k d (subst (λ (ws : List Worker). k < length ws) (sym same) lt) ∙ ap (λ (ws : List Worker). (get_or ws k d).port) same))

pub returns-else-refused : goal.returns-else-refused
returns-else-refused g c =
    let old = c.hire.new.workers.items in
    let new = c.work_all.new.workers in
    let same : c.as_mut_slice.result.now ≡ old = search rules in
    let len : length new ≡ length old = c.work_all.auto.workers ∙ ap (λ (ws : List Worker). length ws) same in
    let shelves = c.args.shelves.now in
    let root = c.join_all-refused.new.root in
    let j = c.join_all-refused.ensures in
    let done = subst (λ (ws : List Worker). All (λ w. IsDone shelves w) ws) (sym (lent old new c.hire.new.workers.len c.hire.new.workers.ok.0 len)) c.work_all.ensures.done in
    record {
      handled = handled _ c.close-fabric.result root shelves c.close-fabric.ensures j.joined (out_same (length shelves) shelves c.hire.new.root root j.given c.hire.ensures.out) (j.taken c.if-refused.false shelves done) c.requires.can.ports;
    }
