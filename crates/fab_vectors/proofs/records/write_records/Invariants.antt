use Rattle.std.proofs.Common.{◌≡◌, ◌++◌, drop, flat_map}
use Rattle.fab_vectors.specs.Load.{record_of}
use Rattle.fab_vectors.proofs.records.write_records.Given as goal

abbrev pub invariant-loop-frame : goal.invariant-loop-frame
invariant-loop-frame l = l.out.items ++ flat_map (record_of l.port) (drop l.frame-index l.frames) ≡ l.fn.out.items ++ flat_map (record_of l.port) l.frames
