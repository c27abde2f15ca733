use Rattle.std.proofs.Common.{◌≡◌, drop}
use Rattle.fab_policy.specs.Outputs.{bytes_before}
use Rattle.fab_sending.proofs.clears.are_before.Given as goal

abbrev pub invariant-loop-i : goal.invariant-loop-i
invariant-loop-i l = bytes_before (drop l.i l.one) (drop l.i l.other) ≡ bytes_before l.one l.other
