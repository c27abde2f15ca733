use Rattle.std.proofs.Common.{take}
use Rattle.fab_policy.specs.Private.LineWords.{SpellNone}
use Rattle.fab_policy.proofs.words.rule_among.Given as goal

abbrev pub invariant-loop-rule : goal.invariant-loop-rule
invariant-loop-rule l = SpellNone (take l.rule-index l.rules) l.word
