use Rattle.std.proofs.Common.{◌≡◌, ◌++◌, drop}
use Rattle.fab_sending.specs.Framed.{framed}
use Rattle.fab_sending.proofs.answers.frames.Given as goal

abbrev pub invariant-loop-count : goal.invariant-loop-count
invariant-loop-count l =
    l.outs ++ framed l.port l.moment l.to l.bytes l.count (drop l.count l.ranges) ≡ framed l.port l.moment l.to l.bytes 0 l.ranges
