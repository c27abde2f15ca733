use Rattle.std.proofs.Common.{refl, arith}
use Rattle.sorted_lists.proofs.OrderLemmas.{some-at}
use Rattle.sorted_lists.proofs.PlacingLemmas.{next-there, next-none}
use Rattle.sorted_lists.proofs.orders.order_next.Goals as goal

pub index-requires : goal.index-requires
index-requires g c = some-at c.args.records.now c.args.places.now c.order_from-start.result c.requires.there c.if-start-places.true

pub returns-then-start-places : goal.returns-then-start-places
returns-then-start-places g c =
    next-there (g.O.Order.number_of c.args.order.now) c.args.records.now c.args.places.now c.args.places.now c.args.from c.args.from c.order_from-start.result c.requires.there refl refl c.order_from-start.ensures.place
    c.index.result.now c.if-start-places.true c.index.ensures

pub returns-else-start-places : goal.returns-else-start-places
returns-else-start-places g c =
    next-none (g.O.Order.number_of c.args.order.now) c.args.records.now c.args.places.now c.args.places.now c.args.from c.args.from c.order_from-start.result c.requires.there refl refl c.order_from-start.ensures.place (omega (arith, c.if-start-places.false))
