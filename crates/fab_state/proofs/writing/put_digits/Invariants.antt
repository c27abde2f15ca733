use Rattle.std.proofs.Common.{◌≡◌, ◌++◌, drop, flat_map}
use Rattle.fab_base.specs.Texts.{hex}
use Rattle.fab_state.proofs.writing.put_digits.Given as goal

abbrev pub invariant-loop-byte : goal.invariant-loop-byte
invariant-loop-byte l = l.out.items ++ flat_map (hex 2) (drop l.byte-index l.bytes) ≡ l.fn.out.items ++ flat_map (hex 2) l.bytes
