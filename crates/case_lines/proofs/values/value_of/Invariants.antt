use Rattle.std.proofs.Common.{◌≡◌, drop, Some}
use Rattle.case_lines.specs.Values.{value_from}
use Rattle.case_lines.proofs.values.value_of.Given as goal

abbrev pub invariant-loop-digit : goal.invariant-loop-digit
invariant-loop-digit l = value_from (Some 0) l.word ≡ value_from (Some l.value) (drop l.digit-index l.word)
