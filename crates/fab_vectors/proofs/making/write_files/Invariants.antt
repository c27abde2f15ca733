use Rattle.fab_vectors.proofs.MakingLemmas.{Made}
use Rattle.fab_vectors.proofs.making.write_files.Given as goal

abbrev pub invariant-loop-place : goal.invariant-loop-place
invariant-loop-place g l =
    let seen = g.D.Depot.seen in
    Made l.number l.slots l.place l.total (seen l.fn.depot) (seen l.depot)
