use Rattle.std.proofs.Common.{◌≡◌, drop}
use Rattle.std.specs.List.{list_any}
use Rattle.enode_core.specs.Runs.{is_too_far}
use Rattle.side_runs.proofs.node_input.is_too_long.Given as goal

-- one of those that are left lies too far where one of all does
abbrev pub invariant-loop-place : goal.invariant-loop-place
invariant-loop-place l = list_any (is_too_far l.start) (drop l.place l.records) ≡ list_any (is_too_far l.start) l.records
