use Rattle.case_lines.specs.Printing.{Grows}
use Rattle.frame_cases.proofs.sent.said_outs.Given as goal

abbrev pub invariant-loop-index : goal.invariant-loop-index
invariant-loop-index l = Grows l.initial.out.items l.out.items
