use Rattle.fabric_tests.specs.Passes.{IsOf}
use Rattle.fabric_tests.proofs.shared_by_threads.submit_all.Given as goal

abbrev pub invariant-loop-index : goal.invariant-loop-index
invariant-loop-index g l = IsOf l.shared l.fn.port l.pass
