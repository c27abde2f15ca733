use Rattle.std.proofs.Common.{ℕ, ◌∙◌, ap, nat_lt, position, unwrap_or, length}
use Rattle.fab_base.proofs.KeyedLemmas.{added-inserted}
use Rattle.sorted_lists.proofs.ranked.rank_put.Goals as goal

pub returns-clause-items : goal.returns-clause-items
returns-clause-items g c =
    let rank = g.T.HasRank.rank_of in
    let seen = c.deref.result.now in
    let place = c.rank_above-place.ensures.place ∙ ap (λ (r : ℕ). unwrap_or (position (λ y. nat_lt r (rank y)) seen) (length seen)) c.rank.ensures in
    added-inserted rank c.args.item 0 _ _ _ _ c.requires.ascend c.requires.absent c.deref.ensures.value place c.in-Ok.ensures.items
