use Rattle.case_lines.specs.Printing.{Grows}
use Rattle.table_cases.proofs.pool.said_finds.Given as goal

abbrev pub invariant-loop-index : goal.invariant-loop-index
invariant-loop-index l = Grows l.initial.out.items l.out.items
