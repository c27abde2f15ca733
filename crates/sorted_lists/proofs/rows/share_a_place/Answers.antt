use Rattle.std.proofs.Common.{length, arith}
use Rattle.sorted_lists.proofs.RowLemmas.{common-at, none-common, zeros-behind, least_end}
use Rattle.sorted_lists.proofs.rows.share_a_place.Goals as goal

pub returns-then-xs-word-ne0-clause-common : goal.returns-then-xs-word-ne0-clause-common
returns-then-xs-word-ne0-clause-common c =
    common-at c.args.xs.now c.args.ys.now c.args.zs.now c.loop-word.word c.if-xs-word-ne0.true (let fit = c.type_inv.xs c.loop-word.word in omega arith)

pub returns-clause-none : goal.returns-clause-none
returns-clause-none c =
    let xs = c.args.xs.now in
    let ys = c.args.ys.now in
    let zs = c.args.zs.now in
    none-common xs ys zs (zeros-behind xs ys zs c.loop-word.word (least_end (length xs) (length ys) (length zs) c.loop-word.word (omega arith)) c.loop-word.invariant)
