-- The law is a lemma in each direction.
use Rattle.fab_policy.proofs.LawLemmas.{request_means, request_from}
use Rattle.fab_policy.proofs.laws.requests_are_answered.Goals as goal

pub returns : goal.returns
returns c = λ s tables port caught bytes. (request_means s tables port caught bytes, request_from s tables port caught)
