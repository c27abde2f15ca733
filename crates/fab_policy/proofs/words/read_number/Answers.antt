use Rattle.fab_policy.proofs.ReadLemmas.{not_shortest, not_text}
use Rattle.fab_policy.proofs.words.read_number.Goals as goal

pub returns-then-not-is_shortest : goal.returns-then-not-is_shortest
returns-then-not-is_shortest c = not_shortest c.args.word.now c.if-not-is_shortest.ensures

pub returns-in-Err : goal.returns-in-Err
returns-in-Err c = not_text c.args.word.now c.in-Err.ensures.cases.0
