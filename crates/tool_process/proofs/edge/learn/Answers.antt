use Rattle.std.proofs.Common.{◌∙◌, sym, ap, is_some}
use Rattle.tool_process.proofs.EdgeLemmas.{adds_own, adds_others}
use Rattle.tool_process.proofs.edge.learn.Goals as goal

pub returns-clause-own : goal.returns-clause-own
returns-clause-own c = adds_own c.args.name.now c.args.desk.now c.know.new.self c.in_ok-know.ensures.ok (ap is_some (sym c.place.ensures.found) ∙ sym c.is_some.ensures ∙ c.if-is_some.false)

pub returns-clause-others : goal.returns-clause-others
returns-clause-others c = adds_others c.args.name.now c.args.desk.now c.know.new.self c.in_ok-know.ensures.ok
