use Rattle.std.proofs.Common.{◌∙◌, ap, sym, Some}
use Rattle.slab.specs.Slab.{get}
use Rattle.fab_base.specs.Keyed.{item_at}
use Rattle.sorted_lists.specs.Orders.{seen}
use Rattle.sorted_lists.proofs.IndexLemmas.{some_same}
use Rattle.sorted_lists.proofs.OrderLemmas.{some_is, seen-updates, IsOrderBut-written}
use Rattle.keepalive_clock.specs.Order.{deadline_number, heard_again}
use Rattle.keepalive_clock.specs.declared.voice.LastHeard.{LastHeard}
use Rattle.keepalive_clock.proofs.orders.take_out.Goals as goal

pub returns-clause-but : goal.returns-clause-but
returns-clause-but c =
    let (x, here) = some_is (get c.args.records.now c.args.place) c.requires.there in
    IsOrderBut-written (deadline_number c.args.order.now.node_period c.args.order.now.port_period) c.args.records.now c.set_last.new.records c.args.place (heard_again c.args.now x) c.order_take.new.places.items
    c.order_take.ensures.but (c.set_last.ensures.updates x here) c.set_last.ensures.len

pub returns-clause-absent : goal.returns-clause-absent
returns-clause-absent c = λ z at.
    let number = deadline_number c.args.order.now.node_period c.args.order.now.port_period in
    let (x, here) = some_is (get c.args.records.now c.args.place) c.requires.there in
    let updates = c.set_last.ensures.updates x here in
    let y = heard_again c.args.now x in
    ap (λ (w : LastHeard). item_at number (number w) (seen c.set_last.new.records c.order_take.new.places.items)) (sym (some_same y z (sym updates.changed ∙ at)))
    ∙ ap (item_at number (number y)) (seen-updates c.args.records.now c.set_last.new.records c.args.place (Some y) c.order_take.new.places.items updates c.order_take.ensures.but.absent ∙ c.order_take.ensures.items x here)
    ∙ c.requires.apart x here
