use Rattle.sorted_lists.proofs.RowLemmas.{has-clear}
use Rattle.sorted_lists.proofs.rows.clear_bit.Goals as goal

pub returns-clause-bits : goal.returns-clause-bits
returns-clause-bits c = λ q. has-clear c.args.row.now.items c.args.place q c.index_mut.result.now c.requires c.index_mut.ensures.value
