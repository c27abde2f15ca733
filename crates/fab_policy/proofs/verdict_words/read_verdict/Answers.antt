use Rattle.std.proofs.Common.{[]}
use Rattle.fab_policy.proofs.VerdictLemmas.{found_more}
use Rattle.fab_policy.proofs.verdict_words.read_verdict.Goals as goal

pub returns-in-Some : goal.returns-in-Some
returns-in-Some c = found_more [] c.args.text.now _ _ c.verdict_of_one.result c.in-Some.ensures.some c.verdict_of_one.ensures
