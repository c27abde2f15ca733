use Rattle.std.proofs.Common.{◌∙◌, refl, sym, arith}
use Rattle.sorted_lists.proofs.OrderLemmas.{some-at}
use Rattle.sorted_lists.proofs.PlacingLemmas.{item-there, item-other, item-past}
use Rattle.sorted_lists.proofs.orders.order_find.Goals as goal

pub returns-then-start-places-clause-none : goal.returns-then-start-places-clause-none
returns-then-start-places-clause-none g c =
    item-past (g.O.Order.number_of c.args.order.now) c.args.records.now c.args.places.now c.args.places.now c.args.number c.args.number c.order_from-start.result c.requires.there refl refl c.order_from-start.ensures.place c.requires.ascending c.if-start-places.true

pub index-requires : goal.index-requires
index-requires g c = some-at c.args.records.now c.args.places.now c.order_from-start.result c.requires.there (omega (arith, c.order_from-start.ensures.within, c.if-start-places.false))

pub returns-then-number-clause-none : goal.returns-then-number-clause-none
returns-then-number-clause-none g c =
    item-other (g.O.Order.number_of c.args.order.now) c.args.records.now c.args.places.now c.args.places.now c.args.number c.args.number c.order_from-start.result c.requires.there refl refl c.order_from-start.ensures.place
    c.index.result.now c.requires.ascending (omega (arith, c.order_from-start.ensures.within, c.if-start-places.false)) c.index.ensures (λ e. c.if-number.true (c.number.ensures ∙ e))

pub returns-clause-some : goal.returns-clause-some
returns-clause-some g c =
    item-there (g.O.Order.number_of c.args.order.now) c.args.records.now c.args.places.now c.args.places.now c.args.number c.args.number c.order_from-start.result c.requires.there refl refl c.order_from-start.ensures.place
    c.index.result.now c.requires.ascending (omega (arith, c.order_from-start.ensures.within, c.if-start-places.false)) c.index.ensures (sym c.number.ensures ∙ c.if-number.false)
