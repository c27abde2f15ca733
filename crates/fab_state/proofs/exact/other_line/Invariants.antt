use Rattle.std.proofs.Common.{◌≡◌, ◌≤◌, ◌+◌, drop}
use Rattle.fab_state.specs.Reading.{other_line}
use Rattle.fab_state.proofs.exact.other_line.Given as goal

abbrev pub invariant-loop-place : goal.invariant-loop-place
invariant-loop-place l = (l.line + other_line (drop l.place l.written) (drop l.place l.text) ≡ other_line l.written l.text + 1) × (l.line ≤ l.place + 1)
