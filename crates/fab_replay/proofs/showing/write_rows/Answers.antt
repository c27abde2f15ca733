use Rattle.std.proofs.Common.{arith}
use Rattle.fab_replay.proofs.ShowLemmas.{rows_first, rows_on, rows_end}
use Rattle.fab_replay.proofs.showing.write_rows.Goals as goal

pub loop-row-init : goal.loop-row-init
loop-row-init c = record { told = λ order. rows_first c.args.fabric.now.state.tables.ports c.args.text.now.items order; bound = omega arith }

pub loop-row-preserved : goal.loop-row-preserved
loop-row-preserved c = record {
  told = λ order.
      rows_on c.loop-row.from c.value-from.result c.args.fabric.now.state.tables.ports c.loop-row.text.items c.write_row.new.out.items _ c.in-Some.row order (c.in-Some.ensures.row order) (c.loop-row.invariant.told order) c.in_ok-write_row.ensures.ok c.value-from.ensures.value;
  bound = omega (arith, c.value-from.ensures.range);
}

pub returns : goal.returns
returns c order = rows_end c.loop-row.from c.args.fabric.now.state.tables.ports c.loop-row.text.items _ (c.in_default.ensures.row order) (c.loop-row.invariant.told order)
