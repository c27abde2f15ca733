use Rattle.std.proofs.Common.{◌≡◌, ◌-◌, drop, length}
use Rattle.fab_sending.specs.Clearing.{enodes_of}
use Rattle.fab_sending.proofs.clears.enodes_of.Given as goal

abbrev pub invariant-loop-done : goal.invariant-loop-done
invariant-loop-done l = l.enodes.items ≡ enodes_of (drop (length l.logins - l.done) l.logins)
