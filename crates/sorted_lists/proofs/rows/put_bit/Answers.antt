use Rattle.std.proofs.Common.{refl}
use Rattle.sorted_lists.proofs.RowLemmas.{has-set}
use Rattle.sorted_lists.proofs.rows.put_bit.Goals as goal

pub returns-clause-bits : goal.returns-clause-bits
returns-clause-bits c = λ q. has-set c.args.row.now.items c.args.row.now.items c.args.place q c.index_mut.result.now (λ k. refl) c.requires c.index_mut.ensures.value
