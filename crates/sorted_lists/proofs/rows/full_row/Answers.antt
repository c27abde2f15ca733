use Rattle.std.proofs.Common.{ap, ◌∙◌, ◌/◌, ◌+◌, arith}
use Rattle.sorted_lists.specs.Row.{has}
use Rattle.sorted_lists.proofs.RowLemmas.{has-full}
use Rattle.sorted_lists.proofs.rows.full_row.Goals as goal

pub returns-clause-bits : goal.returns-clause-bits
returns-clause-bits c = λ q lt. ap (λ l. has l q) (c.in_ok-row.ensures.items_if_clones_equal (λ y same. same)) ∙ has-full (c.args.places / 64 + 1) q (omega arith)
