use Rattle.std.proofs.Common.{length}
use Rattle.wire_store.specs.Ports.{Sending}
use Rattle.wire_store.proofs.feed.send_wholes.Given as goal

abbrev pub invariant-loop-frame : goal.invariant-loop-frame
invariant-loop-frame g l = Sending l.port l.fn.splitter l.splitter (g.P.Ports.acts l.fn.devices) (g.P.Ports.acts l.devices)

abbrev pub decreases-loop-frame : goal.decreases-loop-frame
decreases-loop-frame g l = length l.splitter.held
