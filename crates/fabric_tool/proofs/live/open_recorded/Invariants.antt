use Rattle.fabric_tool.proofs.LiveWordLemmas.{PortsOpened}
use Rattle.fabric_tool.proofs.live.open_recorded.Given as goal

abbrev pub invariant-loop-port : goal.invariant-loop-port
invariant-loop-port g l =
    let seen = g.D.Depot.seen in
    PortsOpened l.words l.port (seen l.fn.depot) (seen l.depot) l.journal l.ins.items l.outs.items
