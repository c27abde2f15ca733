use Rattle.std.proofs.Common.{◌∙◌, sym}
use Rattle.fab_replay.proofs.LineLemmas.{head_behind, plain_behind}
use Rattle.fab_replay.proofs.lines.first_place.Goals as goal

pub returns-then-has_head-clause-behind : goal.returns-then-has_head-clause-behind
returns-then-has_head-clause-behind c = head_behind c.args.journal.now (sym c.has_head.ensures.head ∙ c.if-has_head.true)

pub returns-clause-behind : goal.returns-clause-behind
returns-clause-behind c = plain_behind c.args.journal.now (sym c.has_head.ensures.head ∙ c.if-has_head.false)
