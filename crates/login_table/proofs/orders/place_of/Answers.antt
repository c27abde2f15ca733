use Rattle.std.proofs.Common.{◌≡◌, ℕ, IfSome, subst}
use Rattle.slab.specs.Slab.{get}
use Rattle.sorted_lists.specs.Orders.{seen}
use Rattle.login_table.specs.Logins.{login_at}
use Rattle.login_table.proofs.orders.place_of.Goals as goal

pub returns-clause-some : goal.returns-clause-some
returns-clause-some c =
    subst (λ (a : ℕ). IfSome c.order_find.result (λ place. get c.args.logins.now place ≡ login_at a (seen c.args.logins.now c.args.places.now))) c.value.ensures.value c.order_find.ensures.some
