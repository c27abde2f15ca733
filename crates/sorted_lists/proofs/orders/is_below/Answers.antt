use Rattle.std.proofs.Common.{ap, sym, ◌∙◌, nat_lt, arith}
use Rattle.sorted_lists.specs.Orders.{seen}
use Rattle.sorted_lists.proofs.OrderLemmas.{length-seen, some-at, seen-at}
use Rattle.sorted_lists.proofs.SearchLemmas.{tested}
use Rattle.sorted_lists.proofs.orders.is_below.Goals as goal

pub index-requires : goal.index-requires
index-requires g c = some-at c.args.records.now c.args.places.now c.args.at c.requires.sorted.there c.requires.inside

pub returns : goal.returns
returns g c =
    let key = g.O.Order.number_of c.args.order.now in
    let list = seen c.args.records.now c.args.places.now in
    let here = seen-at c.args.records.now c.args.places.now c.args.at c.index.result.now c.index.result.now c.requires.sorted.there c.requires.inside c.index.ensures in
    ap (λ n. nat_lt n c.args.from) (c.number.ensures ∙ ap key (sym here))
    ∙ tested key c.args.from list c.args.at c.index.result.now c.requires.sorted.ascending (omega (arith, c.requires.inside, length-seen c.args.records.now c.args.places.now c.requires.sorted.there))
