use Rattle.std.proofs.Common.{◌≡◌, ◌+◌, drop}
use Rattle.case_lines.specs.Words.{line_length}
use Rattle.case_lines.proofs.words.line_length.Given as goal

abbrev pub invariant-loop-i : goal.invariant-loop-i
invariant-loop-i l = line_length l.text ≡ l.i + line_length (drop l.i l.text)
