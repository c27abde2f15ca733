use Rattle.std.proofs.Common.{◌∙◌, ap, nat_lt}
use Rattle.sorted_lists.proofs.SearchLemmas.{tested}
use Rattle.sorted_lists.proofs.is_below.Goals as goal

pub returns : goal.returns
returns g c =
    ap (λ n. nat_lt n c.args.from) (c.value.ensures.value ∙ c.address.ensures ∙ ap g.T.HasAddress.address_of c.index-items-at.is)
    ∙ tested g.T.HasAddress.address_of c.args.from c.args.items.now c.args.at c.index-items-at.result c.requires.ascend c.requires.inside
