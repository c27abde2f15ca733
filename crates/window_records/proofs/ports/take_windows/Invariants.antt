use Rattle.window_records.proofs.PortsLemmas.{Round}
use Rattle.window_records.specs.Ports.{walk_at}
use Rattle.window_records.proofs.ports.take_windows.Given as goal

abbrev pub invariant-loop-port : goal.invariant-loop-port
invariant-loop-port g l =
    let seen = g.D.Depot.seen in
    Round l.config l.window l.port (walk_at (seen l.initial.depot) l.initial.ins l.initial.shelves l.initial.budget) (walk_at (seen l.depot) l.ins l.shelves l.budget)
