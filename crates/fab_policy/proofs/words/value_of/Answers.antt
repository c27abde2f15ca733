use Rattle.fab_policy.proofs.ReadLemmas.{parsed, not_parsed}
use Rattle.fab_policy.proofs.words.value_of.Goals as goal

pub returns-in-Ok : goal.returns-in-Ok
returns-in-Ok c = parsed c.args.text.now c.in-Ok.value c.requires c.in-Ok.ensures.value.0

pub returns-in-Err : goal.returns-in-Err
returns-in-Err c = not_parsed c.args.text.now c.requires c.in-Err.ensures.value.0
