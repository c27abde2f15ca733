use Rattle.fabric_tool.proofs.MakeLemmas.{file_names}
use Rattle.run_files.proofs.OpenLemmas.{OpenedSoFar}
use Rattle.fabric_tool.proofs.making.open_files.Given as goal

abbrev pub invariant-loop-place : goal.invariant-loop-place
invariant-loop-place g l =
    let seen = g.D.Depot.seen in
    OpenedSoFar (file_names l.words l.place) (seen l.fn.depot) (seen l.depot) l.slots.items
