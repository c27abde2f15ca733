use Rattle.std.proofs.Common.{◌≡◌, drop}
use Rattle.side_runs.specs.Course.{AreFar, IsAt}
use Rattle.enode_core.specs.Runs.{from}
use Rattle.side_runs.proofs.course.play.Given as goal

-- the records that are left are those of the run that are left
abbrev pub invariant-loop-place : goal.invariant-loop-place
invariant-loop-place l = record {
  own : l.course.node.own ≡ l.fn.own;
  far : AreFar (drop l.place l.records);
  at : IsAt l.fn.own l.fn.start l.records (from l.fn.start (drop l.place l.records)) l.course.node.state l.course.capture.items;
}
