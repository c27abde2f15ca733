use Rattle.fab_policy.proofs.ReadLemmas.{rule_found}
use Rattle.fab_policy.proofs.words.read_rule.Goals as goal

pub returns : goal.returns
returns c = rule_found c.args.word.now c.rule_among.result c.rule_among.ensures.some c.rule_among.ensures.none
