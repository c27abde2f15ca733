use Rattle.std.specs.Prelude.{map}
use Rattle.fab_base.specs.Counting.{counting}
use Rattle.side_runs.specs.Sides.{input_at}
use Rattle.side_runs.proofs.InputLemmas.{InputsSoFar}
use Rattle.side_runs.proofs.captures.read_captures.Given as goal

abbrev pub invariant-loop-port : goal.invariant-loop-port
invariant-loop-port g l =
    let seen = g.D.Depot.seen in
    InputsSoFar (map (input_at l.sides) (counting 0 l.port)) (seen l.fn.depot) (seen l.depot) l.ins.items l.fn.budget l.budget
