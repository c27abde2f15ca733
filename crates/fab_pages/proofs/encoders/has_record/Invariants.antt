use Rattle.std.proofs.Common.{take}
use Rattle.fab_pages.specs.Encoders.{NoneFor}
use Rattle.fab_pages.proofs.encoders.has_record.Given as goal

abbrev pub invariant-loop-index : goal.invariant-loop-index
invariant-loop-index l = NoneFor l.place (take l.index l.drained.outs)
