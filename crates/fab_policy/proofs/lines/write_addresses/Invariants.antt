use Rattle.std.proofs.Common.{◌≡◌, ◌++◌, take}
use Rattle.fab_policy.specs.Text.{address_words}
use Rattle.fab_policy.proofs.lines.write_addresses.Given as goal

abbrev pub invariant-loop-index : goal.invariant-loop-index
invariant-loop-index l = l.line.items ≡ l.initial.line.items ++ address_words (take l.index l.ended)
