use Rattle.std.proofs.Common.{◌≡◌, ◌++◌, drop}
use Rattle.case_lines.specs.Printing.{behind_colons, Grows}
use Rattle.case_lines.proofs.printing.put_behind_colons.Given as goal

abbrev pub invariant-loop-byte : goal.invariant-loop-byte
invariant-loop-byte l =
    (l.out.items ++ behind_colons (drop l.byte-index l.bytes) ≡ l.initial.out.items ++ behind_colons l.bytes)
    × Grows l.initial.out.items l.out.items
