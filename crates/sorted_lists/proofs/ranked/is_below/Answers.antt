use Rattle.std.proofs.Common.{◌∙◌, ap, nat_lt}
use Rattle.sorted_lists.proofs.SearchLemmas.{tested}
use Rattle.sorted_lists.proofs.ranked.is_below.Goals as goal

pub returns : goal.returns
returns g c =
    ap (λ n. nat_lt n c.args.from) (c.rank.ensures ∙ ap g.T.HasRank.rank_of c.index-items-at.is)
    ∙ tested g.T.HasRank.rank_of c.args.from c.args.items.now c.args.at c.index-items-at.result c.requires.ascend c.requires.inside
