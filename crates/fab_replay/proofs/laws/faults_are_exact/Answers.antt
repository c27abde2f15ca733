use Rattle.fab_replay.proofs.ExactLemmas.{answer_is_one, output_differs, run_is_accepted, run_is_one}
use Rattle.fab_replay.proofs.laws.faults_are_exact.Goals as goal

pub returns : goal.returns
returns c = record { exact = answer_is_one; one = run_is_one; accepted = run_is_accepted; differs = output_differs }
