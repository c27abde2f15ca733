use Rattle.fabric_tool.proofs.HeadLemmas.{HeadsSoFar}
use Rattle.fabric_tool.proofs.PortLoops.{input_names}
use Rattle.fabric_tool.proofs.heads.heads_of.Given as goal

abbrev pub invariant-loop-port : goal.invariant-loop-port
invariant-loop-port g l =
    let seen = g.D.Depot.seen in
    HeadsSoFar (input_names l.width l.words l.port) (seen l.fn.depot) (seen l.depot) l.ins.items l.fn.budget l.budget
