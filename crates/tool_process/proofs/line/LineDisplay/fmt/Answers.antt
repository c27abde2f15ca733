use Rattle.std.proofs.Common.{sym, ap}
use Rattle.std.proofs.Output.{has_written_of_eq}
use Rattle.tool_process.specs.Line.{line_text}
use Rattle.tool_process.proofs.line.LineDisplay.fmt.Goals as goal

pub returns-in-OneFile-clause-writes : goal.returns-in-OneFile-clause-writes
returns-in-OneFile-clause-writes g c = λ plain ok.
    has_written_of_eq _ _ _ _ _ (sym (ap line_text c.in-OneFile.is)) (c.write-in-OneFile.ensures.writes plain ok)

pub returns-in-Printed-clause-writes : goal.returns-in-Printed-clause-writes
returns-in-Printed-clause-writes g c = λ plain ok.
    has_written_of_eq _ _ _ _ _ (sym (ap line_text c.in-Printed.is)) (c.write-in-Printed.ensures.writes plain ok)
