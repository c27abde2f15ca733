use Rattle.std.proofs.Common.{◌-◌, arith, lt-ltb}
use Rattle.window_records.proofs.GatherLemmas.{gathers_late}
use Rattle.window_records.proofs.gathering.gather.Goals as goal

pub returns-then-saturating_sub-gt-MOST_SPAN : goal.returns-then-saturating_sub-gt-MOST_SPAN
returns-then-saturating_sub-gt-MOST_SPAN g c = record {
  gathers = gathers_late c.args.config.now c.args.first c.args.window c.looks_to_come.ensures.late (g.D.Depot.seen c.args.depot.now) c.args.ins.now c.args.shelves.now c.args.budget.now
      c.requires.count c.requires.ready c.requires.next (lt-ltb 21600000 (c.args.window - c.args.first) (omega (arith, c.if-saturating_sub-gt-MOST_SPAN.true, c.saturating_sub.ensures)));
}
