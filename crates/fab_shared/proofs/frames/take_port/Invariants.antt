use Rattle.std.proofs.Common.{take}
use Rattle.fab_shared.specs.Handled.{HandledPort}
use Rattle.fab_shared.proofs.frames.take_port.Given as goal

abbrev pub invariant-loop-place : goal.invariant-loop-place
invariant-loop-place g l = HandledPort l.port l.first (take l.place l.shelf.batch.items) l.fn.fabric l.fabric
