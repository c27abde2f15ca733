use Rattle.std.proofs.Common.{◌≡◌, ◌+◌, ◌-◌, ◌/◌, vec_len, get_or, ap, ◌∙◌, arith}
use Rattle.sorted_lists.proofs.RowLemmas.{has-set, padded}
use Rattle.sorted_lists.proofs.rows.set_bit.Goals as goal
use Rattle.sorted_lists.proofs.rows.set_bit.Goals.{then-len-word+in_ok-resize, else-len-word}

pub returns-clause-ok : goal.returns-clause-ok
returns-clause-ok c = elim c.if-len-word.branch [
  | then-len-word+in_ok-resize w ↦ λ q.
      let wide : c.if-len-word.row.items ≡ _ = ap (λ v. v.items) w.row-is ∙ w.in_ok-resize.ensures.items in
      let len = ap vec_len w.row-is ∙ w.in_ok-resize.ensures.len in
      has-set c.args.row.now.items c.if-len-word.row.items c.args.place q c.index_mut.result.now
      (λ k. ap (λ l. get_or l k 0) wide ∙ padded c.args.row.now.items (c.args.place / 64 + 1) (c.args.place / 64 + 1 - vec_len c.args.row.now) k (omega arith))
      (omega (arith, len, c.if-len-word.row.ok.0)) c.index_mut.ensures.value
  | else-len-word w ↦ λ q.
      has-set c.args.row.now.items c.if-len-word.row.items c.args.place q c.index_mut.result.now
      (λ k. ap (λ v. get_or v.items k 0) w.row-is) (omega (arith, ap vec_len w.row-is, c.if-len-word.row.ok.0)) c.index_mut.ensures.value
]
