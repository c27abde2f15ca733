use Rattle.std.proofs.Common.{◌++◌, List, ℕ, ap, ◌∙◌}
use Rattle.fab_migrate.proofs.OldLemmas.{entry_clock, entry_ascends, entry_line}
use Rattle.fab_migrate.proofs.old.add_line.Goals as goal

pub write_line-requires-clause-clock : goal.write_line-requires-clause-clock
write_line-requires-clause-clock c = entry_clock c.args.clock c.in_ok-line.line c.in_ok-now.now c.entry.result c.entry.ensures c.in_ok-now.ensures.1

pub write_line-requires-clause-ascending : goal.write_line-requires-clause-ascending
write_line-requires-clause-ascending c = entry_ascends c.in_ok-line.line c.entry.result c.entry.ensures c.in_ok-line.ensures.ok.ranged

pub returns : goal.returns
returns c = record {
  adds = (c.in_ok-line.line, c.in_ok-line.ensures.ok, c.in_ok-now.ensures.0, c.in_ok-now.ensures.1, c.in_ok-write_line.ensures.ok ∙ ap (λ (l : List ℕ). c.args.out.now.items ++ l) (entry_line c.args.clock c.in_ok-line.line c.in_ok-now.now c.entry.result c.entry.ensures c.in_ok-now.ensures.1));
}
