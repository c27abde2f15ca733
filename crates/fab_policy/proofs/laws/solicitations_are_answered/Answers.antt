-- The law is a lemma in each direction.
use Rattle.fab_policy.proofs.LawLemmas.{solicitation_means, solicitation_from}
use Rattle.fab_policy.proofs.laws.solicitations_are_answered.Goals as goal

pub returns : goal.returns
returns c = λ s tables port caught bytes. (solicitation_means s tables port caught bytes, solicitation_from s tables port caught)
