use Rattle.std.proofs.Common.{◌∙◌, ap, sym, Some}
use Rattle.fab_base.proofs.KeyedLemmas as keyed
use Rattle.sorted_lists.proofs.ranked.rank_take.Goals as goal

pub returns-in-Some-clause-item : goal.returns-in-Some-clause-item
returns-in-Some-clause-item g c =
    let place = keyed.IsPlace-found g.T.HasRank.rank_of c.args.rank 0 c.args.items.now.items _ _ _ c.requires c.rank_at.ensures c.deref.ensures.value c.in-Some.is in
    ap (λ x. Some x) c.remove.ensures.value ∙ sym (place.item c.remove.result)

pub returns-in-Some-clause-items : goal.returns-in-Some-clause-items
returns-in-Some-clause-items g c =
    let place = keyed.IsPlace-found g.T.HasRank.rank_of c.args.rank 0 c.args.items.now.items _ _ _ c.requires c.rank_at.ensures c.deref.ensures.value c.in-Some.is in
    c.remove.ensures.items ∙ place.removal

pub returns-in-None-clause-item : goal.returns-in-None-clause-item
returns-in-None-clause-item g c = sym (keyed.item_at-not_found g.T.HasRank.rank_of c.args.rank c.args.items.now.items _ _ c.rank_at.ensures c.deref.ensures.value c.in-None.is)

pub returns-in-None-clause-items : goal.returns-in-None-clause-items
returns-in-None-clause-items g c =
    sym (keyed.without-absent g.T.HasRank.rank_of c.args.rank c.args.items.now.items (keyed.item_at-not_found g.T.HasRank.rank_of c.args.rank _ _ _ c.rank_at.ensures c.deref.ensures.value c.in-None.is))
