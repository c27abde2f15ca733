use Rattle.std.proofs.Common.{◌≡◌, ◌∙◌, ℕ, ap, sym, refl}
use Rattle.fab_base.proofs.KeyedLemmas as keyed
use Rattle.slab.specs.Slab.{with_value}
use Rattle.sorted_lists.specs.Orders.{seen}
use Rattle.sorted_lists.proofs.IndexLemmas.{key_found}
use Rattle.login_table.specs.Logins.{address_of, login_at, with_size, with_server}
use Rattle.login_table.proofs.KeptLemmas.{kept_sized, seen_sized}
use Rattle.login_table.proofs.table.LoginTable.set_server.Goals as goal

address : (c : goal.After-self-1) → c.index_mut.result.now.address ≡ c.args.address
address c =
    key_found address_of c.args.address c.index_mut.result.now (seen c.self.inside.logins c.self.inside.by_address.items)
    (sym (ap (λ l. login_at c.args.address (seen c.self.inside.logins l)) c.deref.ensures.value) ∙ sym c.in-Some.ensures.some ∙ c.index_mut.ensures.value)

items : (c : goal.After-self-1) → seen (with_value c.self.inside.logins c.in-Some.place (with_size c.args.size c.index_mut.result.now)) c.self.inside.by_address.items
    ≡ with_server c.args.address c.args.size (seen c.self.inside.logins c.self.inside.by_address.items)
items c =
    seen_sized c.self.invariant c.args.size c.in-Some.place c.index_mut.result.now c.index_mut.ensures.value
    ∙ ap (λ (a : ℕ). with_server a c.args.size (seen c.self.inside.logins c.self.inside.by_address.items)) (address c)

stays : (c : goal.In-None) → seen c.self.inside.logins c.self.inside.by_address.items ≡ with_server c.args.address c.args.size (seen c.self.inside.logins c.self.inside.by_address.items)
stays c =
    let none = rw c.deref.ensures.value at c.in-None.ensures.none in
    sym (keyed.changed-absent address_of (with_size c.args.size) c.args.address _ none)

pub invariant_of-self : goal.invariant_of-self
invariant_of-self c = kept_sized c.self.invariant c.args.size c.in-Some.place c.index_mut.result.now c.index_mut.ensures.value

pub returns-in-Some-clause-logins : goal.returns-in-Some-clause-logins
returns-in-Some-clause-logins c = rw (← c.self.view_is) (ap (λ l. record { limit = c.self.inside.limit; logins = l }) (items c))

pub returns-in-Some-clause-sound : goal.returns-in-Some-clause-sound
returns-in-Some-clause-sound c = (invariant_of-self c).sound

pub returns-in-Some-clause-found : goal.returns-in-Some-clause-found
returns-in-Some-clause-found c = rw (items c, ← c.self.view_is) (λ a. keyed.item_at-changed address_of (with_size c.args.size) (λ l. refl) c.args.address a (seen c.self.inside.logins c.self.inside.by_address.items))

pub returns-in-None-clause-logins : goal.returns-in-None-clause-logins
returns-in-None-clause-logins c = rw (← c.self.view_is) (ap (λ l. record { limit = c.self.inside.limit; logins = l }) (stays c))

pub returns-in-None-clause-found : goal.returns-in-None-clause-found
returns-in-None-clause-found c =
    rw (← c.self.view_is) (λ a. ap (λ l. login_at a l) (stays c) ∙ keyed.item_at-changed address_of (with_size c.args.size) (λ l. refl) c.args.address a (seen c.self.inside.logins c.self.inside.by_address.items))
