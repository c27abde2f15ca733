use Rattle.std.proofs.Common.{◌≡◌, ◌++◌, drop, flat_map}
use Rattle.fab_replay.specs.Rows.{word_digits}
use Rattle.fab_replay.proofs.rows.write_map.Given as goal

abbrev pub invariant-loop-word : goal.invariant-loop-word
invariant-loop-word l = l.line.items ++ flat_map word_digits (drop l.word-index l.types.0) ≡ l.fn.line.items ++ flat_map word_digits l.types.0
