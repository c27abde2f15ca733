use Rattle.std.proofs.Common.{arith}
use Rattle.sorted_lists.specs.Orders.{seen}
use Rattle.sorted_lists.proofs.OrderLemmas.{length-seen}
use Rattle.sorted_lists.proofs.SearchLemmas.{place-within}
use Rattle.sorted_lists.proofs.orders.is_behind.Goals as goal

pub returns-then-at-places : goal.returns-then-at-places
returns-then-at-places g c = λ _.
    let slab = c.args.records.now in
    let places = c.args.places.now in
    omega (arith, c.if-at-places.true, place-within (g.O.Order.number_of c.args.order.now) c.args.from (seen slab places), length-seen slab places c.requires.sorted.there)
