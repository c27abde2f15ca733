use Rattle.std.proofs.Common.{◌≡◌, ◌∙◌, ℕ, None, ap, sym, arith}
use Rattle.std.proofs.lemmas.List.Elements.{All-filter}
use Rattle.fab_base.proofs.KeyedLemmas as keyed
use Rattle.sorted_lists.specs.Orders.{seen}
use Rattle.sorted_lists.proofs.IndexLemmas.{key_found}
use Rattle.sorted_lists.proofs.OrderLemmas.{IsOrder-vacated, seen-updates}
use Rattle.login_table.specs.Logins.{address_of, name_of, login_at, without}
use Rattle.login_table.specs.Sound.{behind_number, FitsLogin}
use Rattle.login_table.proofs.LoginLemmas.{IsSound-without}
use Rattle.login_table.proofs.table.LoginTable.remove.Goals as goal

address : (c : goal.After-remove) → c.remove.result.address ≡ c.args.address
address c =
    key_found address_of c.args.address c.remove.result (seen c.self.inside.logins c.self.inside.by_address.items)
    (sym (ap (λ l. login_at c.args.address (seen c.self.inside.logins l)) c.deref.ensures.value) ∙ sym c.in-Some.ensures.some ∙ c.remove.ensures.value)

items : (c : goal.After-remove) → seen c.remove.new.self c.order_take.new.places.items ≡ without c.args.address (seen c.self.inside.logins c.self.inside.by_address.items)
items c =
    seen-updates c.self.inside.logins c.remove.new.self c.in-Some.place None c.order_take.new.places.items c.remove.ensures.updates c.order_take.ensures.but.absent
    ∙ c.order_take.ensures.items c.remove.result c.remove.ensures.value
    ∙ ap (λ (a : ℕ). without a (seen c.self.inside.logins c.self.inside.by_address.items)) (address c)

stays : (c : goal.In-None) → seen c.self.inside.logins c.self.inside.by_address.items ≡ without c.args.address (seen c.self.inside.logins c.self.inside.by_address.items)
stays c =
    let none = rw c.deref.ensures.value at c.in-None.ensures.none in
    sym (keyed.without-absent address_of c.args.address _ none)

pub invariant_of-self : goal.invariant_of-self
invariant_of-self c =
    let kept = c.self.invariant in
    record {
      sound = rw (items c) (IsSound-without c.args.address _ kept.sound);
      fit = rw (items c) (All-filter _ FitsLogin _ kept.fit);
      by_address = IsOrder-vacated address_of c.self.inside.logins c.remove.new.self c.in-Some.place _ c.order_take.ensures.but c.remove.ensures.updates c.remove.ensures.len;
      by_name = IsOrder-vacated name_of c.self.inside.logins c.remove.new.self c.in-Some.place _ c.order_take-in-Some.ensures.but c.remove.ensures.updates c.remove.ensures.len;
      by_enode = IsOrder-vacated behind_number c.self.inside.logins c.remove.new.self c.in-Some.place _ c.order_take-in-Some-2.ensures.but c.remove.ensures.updates c.remove.ensures.len;
      room = omega (arith, kept.room, c.remove.ensures.capacity);
      address_room = omega (arith, kept.address_room, c.order_take.ensures.capacity);
      name_room = omega (arith, kept.name_room, c.order_take-in-Some.ensures.capacity);
      enode_room = omega (arith, kept.enode_room, c.order_take-in-Some-2.ensures.capacity);
      range = kept.range;
    }

pub returns-in-Some-clause-logins : goal.returns-in-Some-clause-logins
returns-in-Some-clause-logins c = rw (← c.self.view_is) (ap (λ l. record { limit = c.self.inside.limit; logins = l }) (items c))

pub returns-in-Some-clause-sound : goal.returns-in-Some-clause-sound
returns-in-Some-clause-sound c = (invariant_of-self c).sound

pub returns-in-Some-clause-found : goal.returns-in-Some-clause-found
returns-in-Some-clause-found c = rw (items c, ← c.self.view_is) (λ a. keyed.item_at-without address_of c.args.address a (seen c.self.inside.logins c.self.inside.by_address.items))

pub returns-in-None-clause-logins : goal.returns-in-None-clause-logins
returns-in-None-clause-logins c = rw (← c.self.view_is) (ap (λ l. record { limit = c.self.inside.limit; logins = l }) (stays c))
