use Rattle.std.proofs.Common.{take}
use Rattle.fab_policy.specs.Private.LineWords.{IsWord}
use Rattle.fab_policy.proofs.words.word_end.Given as goal

abbrev pub invariant-loop-i : goal.invariant-loop-i
invariant-loop-i l = IsWord (take l.i l.text)
