use Rattle.std.proofs.Common.{◌∷◌}
use Rattle.run_files.proofs.OpenLemmas.{OpenedSoFar}
use Rattle.fabric_tool.proofs.PortLoops.{output_names}
use Rattle.fabric_tool.proofs.outputs.open_outputs.Given as goal

abbrev pub invariant-loop-port : goal.invariant-loop-port
invariant-loop-port g l =
    let seen = g.D.Depot.seen in
    OpenedSoFar (output_names l.words l.port) (seen l.fn.depot) (seen l.depot) (l.journal ∷ l.outs.items)
