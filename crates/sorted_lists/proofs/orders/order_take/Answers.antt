use Rattle.std.proofs.Common.{ℕ, List, length, ◌∙◌, ap, sym, arith}
use Rattle.sorted_lists.proofs.IndexLemmas.{some_same}
use Rattle.sorted_lists.proofs.PlacingLemmas.{start-is, taken-within, seen-taken, IsOrderBut-taken}
use Rattle.sorted_lists.proofs.orders.order_take.Goals as goal

pub remove-requires : goal.remove-requires
remove-requires g c =
    let key = g.O.Order.number_of c.args.order.now in
    let places = c.args.places.now.items in
    let start = start-is key c.args.records.now places c.deref.result.now c.number.result (key c.index.result.now) c.order_from-start.result c.requires.order.sorted.there c.deref.ensures.value c.number.ensures c.order_from-start.ensures.place in
    let within = taken-within key c.args.records.now c.args.place c.index.result.now places places c.order_from-start.result c.requires.order c.index.ensures start in
    omega (arith, within, c.deref.ensures.len, ap (λ (l : List ℕ). length l) c.deref.ensures.value)

pub returns-clause-but : goal.returns-clause-but
returns-clause-but g c =
    let key = g.O.Order.number_of c.args.order.now in
    let places = c.args.places.now.items in
    let start = start-is key c.args.records.now places c.deref.result.now c.number.result (key c.index.result.now) c.order_from-start.result c.requires.order.sorted.there c.deref.ensures.value c.number.ensures c.order_from-start.ensures.place in
    IsOrderBut-taken key c.args.records.now c.args.place c.index.result.now places c.remove.new.self.items c.order_from-start.result c.requires.order c.index.ensures start c.remove.ensures.items

pub returns-clause-items : goal.returns-clause-items
returns-clause-items g c = λ x here.
    let key = g.O.Order.number_of c.args.order.now in
    let places = c.args.places.now.items in
    let start = start-is key c.args.records.now places c.deref.result.now c.number.result (key x) c.order_from-start.result c.requires.order.sorted.there c.deref.ensures.value (c.number.ensures ∙ ap key (some_same _ _ (sym c.index.ensures ∙ here))) c.order_from-start.ensures.place in
    seen-taken key c.args.records.now c.args.place x places c.remove.new.self.items c.order_from-start.result c.requires.order here start c.remove.ensures.items
