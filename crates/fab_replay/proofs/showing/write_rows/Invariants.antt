use Rattle.std.proofs.Common.{◌≡◌, ◌++◌, ◌≤◌, ◌^◌, ◌-◌}
use Rattle.fab_replay.specs.Showing.{AreInOrder, ports_lines}
use Rattle.fab_replay.proofs.ShowLemmas.{on_from}
use Rattle.fab_replay.proofs.showing.write_rows.Given as goal

abbrev pub invariant-loop-row : goal.invariant-loop-row
invariant-loop-row l = record {
  told : AreInOrder l.fabric.state.tables.ports → l.text.items ++ ports_lines (on_from (λ p. p.address) l.from l.fabric.state.tables.ports) ≡ l.fn.text.items ++ ports_lines l.fabric.state.tables.ports;
  bound : l.from ≤ 2 ^ 24;
}

abbrev pub decreases-loop-row : goal.decreases-loop-row
decreases-loop-row l = 2 ^ 24 - l.from
