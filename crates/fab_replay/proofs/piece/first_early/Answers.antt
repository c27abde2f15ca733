use Rattle.std.proofs.Common.{refl}
use Rattle.std.proofs.lemmas.Option.{slice_get_read}
use Rattle.fab_replay.proofs.PieceLemmas.{all_later, later_more}
use Rattle.fab_replay.proofs.ResultLemmas.{if_false, if_true}
use Rattle.fab_replay.proofs.piece.first_early.Goals as goal

pub returns-then-is_early-clause-some : goal.returns-then-is_early-clause-some
returns-then-is_early-clause-some c = record {
  shelf = c.index-shelves-i.result;
  at = slice_get_read c.args.shelves.now _ c.loop-i.i c.index-shelves-i.result refl c.loop-i-test.true c.index-shelves-i.is;
  early = if_true _ _ _ c.if-is_early.true c.is_early.ensures;
  others = c.loop-i.invariant;
}

pub loop-i-preserved : goal.loop-i-preserved
loop-i-preserved c = later_more c.args.config.now c.args.clock c.args.shelves.now c.loop-i.i c.index-shelves-i.result (slice_get_read c.args.shelves.now _ c.loop-i.i c.index-shelves-i.result refl c.loop-i-test.true c.index-shelves-i.is) c.loop-i.invariant (if_false _ _ _ c.if-is_early.false c.is_early.ensures)

pub returns-clause-none : goal.returns-clause-none
returns-clause-none c = all_later c.args.config.now c.args.clock c.args.shelves.now c.loop-i.i c.loop-i-test.false c.loop-i.invariant
