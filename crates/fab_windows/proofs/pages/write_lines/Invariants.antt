use Rattle.std.proofs.Common.{◌≡◌, ◌++◌, drop}
use Rattle.fab_base.specs.Ending.{IsPrefixOf}
use Rattle.fab_policy.specs.Growing.{lines_from}
use Rattle.fab_windows.proofs.pages.write_lines.Given as goal

abbrev pub invariant-loop-index : goal.invariant-loop-index
invariant-loop-index l = (l.lines.items ++ lines_from l.clock (drop l.index l.events) ≡ l.fn.lines.items ++ lines_from l.fn.start l.events) × IsPrefixOf l.fn.lines.items l.lines.items
