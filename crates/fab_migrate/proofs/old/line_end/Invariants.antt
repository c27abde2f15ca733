use Rattle.std.proofs.Common.{◌≡◌, ◌++◌, take, drop}
use Rattle.std.specs.Io.BufRead.{take_through}
use Rattle.fab_migrate.proofs.old.line_end.Given as goal

abbrev pub invariant-loop-index : goal.invariant-loop-index
invariant-loop-index l = take l.index l.text ++ take_through 10 (drop l.index l.text) ≡ take_through 10 l.text
