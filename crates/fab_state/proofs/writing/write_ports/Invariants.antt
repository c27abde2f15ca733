use Rattle.std.proofs.Common.{◌≡◌, ◌++◌, drop, map}
use Rattle.std.specs.Prelude.{flat_map}
use Rattle.fab_pieces.specs.Seam.{login_row, row_text}
use Rattle.fab_state.proofs.writing.write_ports.Given as goal

abbrev pub invariant-loop-port : goal.invariant-loop-port
invariant-loop-port l = l.out.items ++ flat_map row_text (map login_row (drop l.port-index l.fn.ports)) ≡ l.fn.out.items ++ flat_map row_text (map login_row l.fn.ports)
