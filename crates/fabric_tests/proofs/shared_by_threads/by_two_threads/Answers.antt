use denote.Param.Send.{sendable}
use Rattle.fab_shared.proofs.Crossing.{pass_send, taken_along}
use Rattle.fabric_tests.proofs.shared_by_threads.by_two_threads.Goals as goal

pub join-first-requires-send-F : goal.join-first-requires-send-F
join-first-requires-send-F g c = λ κs within. let rt = c.type_bounds.sync-R in search (taken_along, rt, sendable) depth 24

pub join-first-requires-send-A : goal.join-first-requires-send-A
join-first-requires-send-A g c = λ κs within. search (pass_send, sendable) depth 24
