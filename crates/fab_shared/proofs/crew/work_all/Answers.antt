use denote.Exit.{yes}
use denote.Param.Send.{param_sync, arg_sync, sendable}
use Rattle.fab_shared.proofs.WorkerCrossing.{worker_send, shared_along}
use Rattle.fab_shared.proofs.crew.work_all.Goals as goal

pub for_each_mut-requires-send-T : goal.for_each_mut-requires-send-T
for_each_mut-requires-send-T g c = λ κs within. search (worker_send, sendable) depth 24

pub for_each_mut-requires-sync-F : goal.for_each_mut-requires-sync-F
for_each_mut-requires-sync-F g c = λ κs within. let rt = c.type_bounds.sync-R in let gate = c.type_bounds.sync-G in param_sync 2 _ (arg_sync _ yes _ (shared_along _ _ rt gate _ _ _ _ _ _ _ _ _ _ _))
