use Rattle.std.proofs.Common.{◌≡◌, drop}
use Rattle.fab_config.specs.Lines.{words}
use Rattle.fab_config.proofs.words.word_start.Given as goal

abbrev pub invariant-loop-i : goal.invariant-loop-i
invariant-loop-i l = words l.line ≡ words (drop l.i l.line)
