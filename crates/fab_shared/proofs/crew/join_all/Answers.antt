use Rattle.std.proofs.Common.{◌∙◌}
use Rattle.fab_shared.specs.Workers.{IsReady}
use Rattle.fab_shared.proofs.JoiningLemmas.{left_fewer}
use Rattle.fab_shared.proofs.WorkerLemmas.{ready_last}
use Rattle.fab_shared.proofs.crew.join_all.Goals as goal

pub loop-worker-preserved : goal.loop-worker-preserved
loop-worker-preserved c =
    let i = c.loop-worker.invariant in
    let j = c.join.ensures in
    let e = c.in-Some.ensures.items in
    let mine = ready_last (λ w. IsReady c.args.shared.now w) c.pop.new.self.items c.loop-worker.workers.items c.in-Some.worker e i.ready in
    left_fewer c.args.shared.now c.args.root.now c.loop-worker.root c.join.new.root c.args.workers.items c.loop-worker.workers.items c.pop.new.self.items c.loop-worker.refused c.in-Some.worker i e
    (j.root.0, (j.root.1.0 ∙ i.root_is.1.0, j.root.1.1 ∙ i.root_is.1.1, j.root.1.3 ∙ i.root_is.1.2)) j.given (j.kept c.in-Some.worker.port mine.2)
