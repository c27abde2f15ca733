use Rattle.std.proofs.Common.{◌≡◌, ◌+◌, ◌-◌, ℕ, List, ◌∷◌}
use Rattle.pcap_file.specs.declared.Record.{Record}
use Rattle.side_runs.specs.Course.{IsAt}
use Rattle.enode_core.specs.Machine.{due}
use Rattle.side_runs.proofs.course.take.Given as goal

-- each timer comes later
abbrev pub decreases-loop-row : goal.decreases-loop-row
decreases-loop-row l = l.row.moment + 1 - due l.course.node.state.stage

-- a run that stood before the record stands before it still
abbrev pub invariant-loop-row : goal.invariant-loop-row
invariant-loop-row l = record {
  own : l.course.node.own ≡ l.fn.course.node.own;
  goes : (start : ℕ) (ins left : List Record) → IsAt l.fn.course.node.own start ins (l.row ∷ left) l.fn.course.node.state l.fn.course.capture.items →
      IsAt l.fn.course.node.own start ins (l.row ∷ left) l.course.node.state l.course.capture.items;
}
