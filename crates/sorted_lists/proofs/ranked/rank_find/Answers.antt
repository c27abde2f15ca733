use Rattle.std.proofs.Common.{◌∙◌, Some, ap, sym, refl}
use Rattle.fab_base.proofs.KeyedLemmas.{IsPlace-found, item_at-not_found}
use Rattle.sorted_lists.proofs.ranked.rank_find.Goals as goal

pub returns-in-Some : goal.returns-in-Some
returns-in-Some g c =
    let place = IsPlace-found g.T.HasRank.rank_of c.args.rank 0 c.args.items.now c.args.items.now _ _ c.requires c.rank_at.ensures refl c.in-Some.is in
    ap (λ x. Some x) c.index-items-place.is ∙ sym (place.item c.index-items-place.result)

pub returns-in-None : goal.returns-in-None
returns-in-None g c = sym (item_at-not_found g.T.HasRank.rank_of c.args.rank c.args.items.now c.args.items.now _ c.rank_at.ensures refl c.in-None.is)
