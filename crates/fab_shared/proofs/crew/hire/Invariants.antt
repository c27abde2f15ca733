use Rattle.std.proofs.Common.{◌≤◌, length}
use Rattle.std.specs.Prelude.{vec_capacity}
use Rattle.fab_shared.specs.Workers.{AreHired}
use Rattle.fab_shared.proofs.crew.hire.Given as goal

abbrev pub invariant-loop-place : goal.invariant-loop-place
invariant-loop-place l = AreHired l.shared l.shelves l.place l.root l.workers.items × (length l.shelves ≤ vec_capacity l.workers)
