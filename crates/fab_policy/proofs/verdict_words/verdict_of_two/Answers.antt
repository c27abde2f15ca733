use Rattle.std.proofs.Common.{[], ◌∷◌}
use Rattle.fab_policy.proofs.VerdictLemmas.{found_more}
use Rattle.fab_policy.proofs.verdict_words.verdict_of_two.Goals as goal

pub returns-in-Some : goal.returns-in-Some
returns-in-Some c = found_more (c.args.word.now ∷ c.args.second.now ∷ []) c.args.rest.now _ _ c.verdict_of_three.result c.in-Some.ensures.some c.verdict_of_three.ensures
