use Rattle.std.proofs.Common.{◌∙◌, sym}
use Rattle.fab_config.proofs.LineLemmas.{without_return_yes, without_return_no}
use Rattle.fab_config.proofs.words.without_return.Goals as goal

pub returns-then-ends_in_return-clause-line : goal.returns-then-ends_in_return-clause-line
returns-then-ends_in_return-clause-line c = sym (without_return_yes c.args.line.now (sym c.ends_in_return.ensures ∙ c.if-ends_in_return.true))

pub returns-else-ends_in_return-clause-line : goal.returns-else-ends_in_return-clause-line
returns-else-ends_in_return-clause-line c = sym (without_return_no c.args.line.now (sym c.ends_in_return.ensures ∙ c.if-ends_in_return.false))
