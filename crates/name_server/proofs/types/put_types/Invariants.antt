use Rattle.name_server.proofs.TypeLemmas.{ArePut}
use Rattle.name_server.proofs.types.put_types.Given as goal

abbrev pub invariant-loop-kind : goal.invariant-loop-kind
invariant-loop-kind l = ArePut l.place l.types l.fn.rows l.rows l.kind
