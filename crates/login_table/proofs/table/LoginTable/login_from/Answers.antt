use Rattle.std.proofs.Common.{sym, subst}
use Rattle.sorted_lists.specs.Orders.{AreSorted}
use Rattle.login_table.specs.Logins.{address_of}
use Rattle.login_table.proofs.table.LoginTable.login_from.Goals as goal

pub order_next-requires : goal.order_next-requires
order_next-requires c = subst (λ l. AreSorted address_of c.self.inside.logins l) (sym c.deref.ensures.value) c.self.invariant.by_address.sorted
