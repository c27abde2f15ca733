use Rattle.std.proofs.Common.{arith, sym, ◌∙◌}
use Rattle.fab_replay.proofs.OutputLemmas.{meets_difference, meets_fault}
use Rattle.fab_replay.proofs.outputs.Compared.meet.Goals as goal

pub returns-in-Some : goal.returns-in-Some
returns-in-Some g c = record {
  feeds = meets_difference c.args.slot c.in_ok-got.got c.in-Some.place c.saturating_add.result c.fill_front.new.into c.args.wanted.now _ _ c.args.self.now (sym c.is_some.ensures ∙ c.if-is_some.false) c.in_ok-got.ensures.fills (omega (arith, c.fill_front.ensures.size, c.requires.few)) c.saturating_add.ensures c.in-Some.ensures.some c.in-Some.ensures.within;
  stays = tt;
}

pub returns-in_err-got-clause-feeds : goal.returns-in_err-got-clause-feeds
returns-in_err-got-clause-feeds g c = meets_fault c.args.slot c.args.wanted.now _ _ c.args.self.now c.from_residual.result c.in_err-got.field-0.0 c.from_residual.ensures.1 c.in_err-got.ensures.fills.reads c.in_err-got.ensures.fills.cause
