use Rattle.std.proofs.Common.{take}
use Rattle.fab_policy.specs.Private.LineWords.{IsWord}
use Rattle.fab_state.proofs.words.word_len.Given as goal

abbrev pub invariant-loop-i : goal.invariant-loop-i
invariant-loop-i l = IsWord (take l.i l.line)
