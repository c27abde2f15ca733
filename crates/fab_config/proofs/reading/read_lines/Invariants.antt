use Rattle.std.proofs.Common.{◌≡◌, ◌+◌, ◌≤◌, length}
use Rattle.fab_config.specs.Fitting.{Fits}
use Rattle.fab_config.specs.Lines.{lines_of}
use Rattle.fab_config.specs.Text.{lines_read, NOTHING}
use Rattle.fab_config.proofs.reading.read_lines.Given as goal

abbrev pub invariant-loop-rest : goal.invariant-loop-rest
invariant-loop-rest l = record {
  on : lines_read l.line l.draft (lines_of l.rest) ≡ lines_read 1 NOTHING (lines_of l.text);
  fits : Fits l.draft;
  few : l.line + length l.rest ≤ length l.text + 1;
}

abbrev pub decreases-loop-rest : goal.decreases-loop-rest
decreases-loop-rest l = length l.rest
