use Rattle.run_files.specs.Pages.{items_in}
use Rattle.run_files.proofs.OutputLemmas.{Putting}
use Rattle.run_files.proofs.outputs.put_each.Given as goal

abbrev pub invariant-loop-port : goal.invariant-loop-port
invariant-loop-port g l =
    let seen = g.D.Depot.seen in
    Putting l.slots (items_in l.pieces) l.port (seen l.fn.depot) (seen l.depot)
