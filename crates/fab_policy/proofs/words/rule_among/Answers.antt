use Rattle.fab_policy.proofs.ReadLemmas.{none_one_more}
use Rattle.fab_policy.proofs.words.rule_among.Goals as goal

pub loop-rule-preserved : goal.loop-rule-preserved
loop-rule-preserved c =
    none_one_more c.args.rules.now c.args.word.now c.rule_text.result.now c.loop-rule.rule-index _ c.loop-rule-test.true c.loop-rule.invariant c.rule_text.ensures.word (λ e. c.if-is.ensures e)
