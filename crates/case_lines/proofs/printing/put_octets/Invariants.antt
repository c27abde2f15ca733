use Rattle.std.proofs.Common.{◌≡◌, ◌++◌, drop}
use Rattle.fab_base.specs.Texts.{hex_bytes}
use Rattle.case_lines.specs.Printing.{Grows}
use Rattle.case_lines.proofs.printing.put_octets.Given as goal

abbrev pub invariant-loop-byte : goal.invariant-loop-byte
invariant-loop-byte l =
    (l.out.items ++ hex_bytes (drop l.byte-index l.bytes) ≡ l.initial.out.items ++ hex_bytes l.bytes)
    × Grows l.initial.out.items l.out.items
