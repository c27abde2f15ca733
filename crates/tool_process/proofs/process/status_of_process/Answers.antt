-- The two ways out: where a name leads to the standard output, and else.
use Rattle.std.proofs.Common.{subst, sym}
use Rattle.tool_process.specs.Same.{IsPrinted}
use Rattle.tool_process.proofs.process.status_of_process.Goals as goal

pub returns-then-is_printed-clause-ends : goal.returns-then-is_printed-clause-ends
returns-then-is_printed-clause-ends g c = λ no. absurd (no (subst IsPrinted c.mix.ensures (c.is_printed.ensures.printed c.if-is_printed.true)))

pub returns-clause-printed : goal.returns-clause-printed
returns-clause-printed g c = λ is. absurd (c.is_printed.ensures.other c.if-is_printed.false (subst IsPrinted (sym c.mix.ensures) is))
