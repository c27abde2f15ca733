use Rattle.std.proofs.Common.{sym, ◌∙◌}
use Rattle.fab_replay.proofs.OutputLemmas.{finds_more}
use Rattle.fab_replay.proofs.outputs.Compared.finish.Goals as goal

pub returns-else-got-eq0 : goal.returns-else-got-eq0
returns-else-got-eq0 g c = record { finishes = finds_more c.args.slot c.in_ok-got.got c.fill.new.into _ _ c.args.self.now (sym c.is_some.ensures ∙ c.if-is_some.false) c.if-got-eq0.false c.fill.auto.into c.in_ok-got.ensures.fills }
