use Rattle.std.proofs.Common.{length}
use Rattle.fab_vectors.specs.Load.{record_of}
use Rattle.fab_vectors.proofs.FilesLemmas.{Going}
use Rattle.fab_vectors.proofs.files.put_pages.Given as goal

abbrev pub invariant-loop-rest : goal.invariant-loop-rest
invariant-loop-rest g l =
    let seen = g.D.Depot.seen in
    Going (record_of l.port) l.slot l.frames l.rest (seen l.fn.depot) (seen l.depot)

abbrev pub decreases-loop-rest : goal.decreases-loop-rest
decreases-loop-rest g l = length l.rest
