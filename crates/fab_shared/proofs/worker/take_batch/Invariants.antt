use Rattle.std.proofs.Common.{◌≡◌, Some, take}
use Rattle.fab_policy.specs.Legal.{numbered_from}
use Rattle.fab_turn.specs.Lock.{own, IsPassOf, IsIdle}
use Rattle.fab_shared.specs.Workers.{frames_in}
use Rattle.fab_shared.proofs.worker.take_batch.Given as goal

abbrev pub invariant-loop-place : goal.invariant-loop-place
invariant-loop-place g l = IsPassOf l.shared.lock l.pass × IsIdle l.pass × (l.pass.port ≡ Some l.port) × (frames_in (own l.pass) ≡ numbered_from l.first (take l.place l.shelf.batch.items))
