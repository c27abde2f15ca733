use Rattle.std.proofs.Common.{rules, arith}
use Rattle.fab_base.proofs.WholeLemmas.{whole_failed, whole_long, whole_no_memory, whole_read}
use Rattle.fab_base.proofs.whole.read_by.Goals as goal

pub returns-in-Err-clause-reads : goal.returns-in-Err-clause-reads
returns-in-Err-clause-reads g c = whole_failed c.args.slot c.args.limit c.loop-got.room _ _ _ c.loop-got.whole.items c.fill.new.into c.requires.input c.loop-got.invariant.so c.in-Err.failed c.in-Err.ensures.fills

pub returns-then-got-room-clause-reads : goal.returns-then-got-room-clause-reads
returns-then-got-room-clause-reads g c = whole_long c.args.slot c.args.limit c.loop-got.room _ _ _ c.loop-got.whole.items c.fill.new.into c.requires.input c.loop-got.invariant.so c.in-Ok.got c.in-Ok.ensures.fills c.if-got-room.true

pub returns-in_default-clause-reads : goal.returns-in_default-clause-reads
returns-in_default-clause-reads g c = whole_no_memory c.args.slot c.args.limit c.loop-got.room _ _ _ c.loop-got.whole.items c.fill.new.into c.requires.input c.loop-got.invariant.so c.in-Ok.got c.in-Ok.ensures.fills (omega (arith, c.if-got-room.false))

pub returns-then-got-piece-clause-reads : goal.returns-then-got-piece-clause-reads
returns-then-got-piece-clause-reads g c = whole_read c.args.slot c.args.limit c.loop-got.room _ _ _ c.loop-got.whole.items c.fill.new.into c.requires.input c.loop-got.invariant.so c.in-Ok.got c.in-Ok.ensures.fills c.extend_from_slice.new.self (search rules) (search rules) (search rules)
