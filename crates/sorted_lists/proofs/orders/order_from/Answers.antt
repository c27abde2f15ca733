use Rattle.std.proofs.Common.{◌≡◌, ◌∙◌, ap, sym, nat_le, position, unwrap_or, rules, arith}
use Rattle.fab_base.proofs.SamenessLemmas.{unwrap_or-position}
use Rattle.sorted_lists.specs.Orders.{seen}
use Rattle.sorted_lists.specs.Reach.{place_of}
use Rattle.sorted_lists.proofs.OrderLemmas.{length-seen}
use Rattle.sorted_lists.proofs.ReachLemmas.{splits}
use Rattle.sorted_lists.proofs.SearchLemmas.{place-within}
use Rattle.sorted_lists.proofs.orders.order_from.Goals as goal

pub returns-then-is_before-clause-place : goal.returns-then-is_before-clause-place
returns-then-is_before-clause-place g c =
    let key = g.O.Order.number_of c.args.order.now in
    let list = seen c.args.records.now c.args.places.now in
    let low = c.is_before.ensures c.if-is_before.true in
    let high = c.is_behind.ensures c.if-is_behind.true in
    let here : c.place_near-near.result ≡ place_of key c.args.from list = omega (arith, low, high) in
    here
    ∙ sym (unwrap_or-position (λ x. nat_le c.args.from (key x)) list)
    ∙ ap (λ n. unwrap_or (position (λ x. nat_le c.args.from (key x)) list) n) (length-seen c.args.records.now c.args.places.now c.requires.there)

pub returns-clause-place : goal.returns-clause-place
returns-clause-place g c =
    let key = g.O.Order.number_of c.args.order.now in
    let list = seen c.args.records.now c.args.places.now in
    let long = length-seen c.args.records.now c.args.places.now c.requires.there in
    c.reach.ensures.value (place_of key c.args.from list) (splits _ _ _ (omega (arith, place-within key c.args.from list, long)) (λ place b says. search rules))
    ∙ sym (unwrap_or-position (λ x. nat_le c.args.from (key x)) list)
    ∙ ap (λ n. unwrap_or (position (λ x. nat_le c.args.from (key x)) list) n) long
