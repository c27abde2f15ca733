use Rattle.std.proofs.Common.{arith}
use Rattle.sorted_lists.proofs.RowLemmas.{has-past, rest-none, rest-some, word-none, word-some, all-none}
use Rattle.sorted_lists.proofs.rows.next_bit.Goals as goal

pub returns-then-word-row : goal.returns-then-word-row
returns-then-word-row c = λ q le. has-past c.args.row.now q (omega (arith, c.if-word-row.true))

pub returns-then-rest-ne0 : goal.returns-then-rest-ne0
returns-then-rest-ne0 c = rest-some c.args.row.now c.args.from c.if-rest-ne0.true

pub loop-next-init : goal.loop-next-init
loop-next-init c = λ q le lt. rest-none c.args.row.now c.args.from q c.if-rest-ne0.false le lt

pub returns-then-row-next-ne0 : goal.returns-then-row-next-ne0
returns-then-row-next-ne0 c =
    word-some c.args.row.now c.args.from c.loop-next.next (omega (arith, c.loop-next.auto)) c.loop-next.invariant c.if-row-next-ne0.true (let fit = c.type_inv.row c.loop-next.next in omega arith)

pub loop-next-preserved : goal.loop-next-preserved
loop-next-preserved c = λ q le lt. word-none c.args.row.now c.args.from c.loop-next.next c.loop-next.invariant c.if-row-next-ne0.false q le lt

pub returns : goal.returns
returns c = λ q le. all-none c.args.row.now c.args.from c.loop-next.next c.loop-next.invariant (omega (arith, c.loop-next-test.false)) q le
