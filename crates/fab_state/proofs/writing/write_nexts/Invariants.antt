use Rattle.std.proofs.Common.{◌≡◌, ◌++◌, ◌+◌, drop}
use Rattle.std.specs.Prelude.{flat_map}
use Rattle.fab_pieces.specs.Seam.{port_rows, row_text}
use Rattle.fab_state.proofs.writing.write_nexts.Given as goal

abbrev pub invariant-loop-index : goal.invariant-loop-index
invariant-loop-index l = l.out.items ++ flat_map row_text (port_rows (l.index + 1) (drop l.index l.fn.nexts)) ≡ l.fn.out.items ++ flat_map row_text (port_rows 1 l.fn.nexts)
