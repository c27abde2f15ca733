use Rattle.std.specs.Prelude.{map}
use Rattle.fab_base.specs.Counting.{counting}
use Rattle.side_runs.specs.Sides.{output_at}
use Rattle.run_files.proofs.OpenLemmas.{OpenedSoFar}
use Rattle.side_runs.proofs.outputs.open_outputs.Given as goal

abbrev pub invariant-loop-port : goal.invariant-loop-port
invariant-loop-port g l =
    let seen = g.D.Depot.seen in
    OpenedSoFar (map (output_at l.sides) (counting 0 l.port)) (seen l.fn.depot) (seen l.depot) l.outs.items
