use Rattle.std.proofs.Common.{◌∙◌, ap, sym}
use Rattle.sorted_lists.proofs.IndexLemmas.{some_same}
use Rattle.sorted_lists.proofs.PlacingLemmas.{start-is, seen-put, IsOrder-put}
use Rattle.sorted_lists.proofs.orders.order_put.Goals as goal

pub returns-clause-order : goal.returns-clause-order
returns-clause-order g c =
    let key = g.O.Order.number_of c.args.order.now in
    let places = c.args.places.now.items in
    let start = start-is key c.args.records.now places c.deref.result.now c.number.result (key c.index.result.now) c.order_from-start.result c.requires.but.sorted.there c.deref.ensures.value c.number.ensures c.order_from-start.ensures.place in
    IsOrder-put key c.args.records.now c.args.place c.index.result.now places c.insert.new.self.items c.order_from-start.result c.requires.but c.index.ensures (c.requires.absent c.index.result.now c.index.ensures) start c.in-Ok.ensures.items

pub returns-clause-items : goal.returns-clause-items
returns-clause-items g c = λ x here.
    let key = g.O.Order.number_of c.args.order.now in
    let places = c.args.places.now.items in
    let start = start-is key c.args.records.now places c.deref.result.now c.number.result (key x) c.order_from-start.result c.requires.but.sorted.there c.deref.ensures.value (c.number.ensures ∙ ap key (some_same _ _ (sym c.index.ensures ∙ here))) c.order_from-start.ensures.place in
    seen-put key c.args.records.now c.args.place x places c.insert.new.self.items c.order_from-start.result c.requires.but here (c.requires.absent x here) start c.in-Ok.ensures.items
