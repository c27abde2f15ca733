use Rattle.std.proofs.Common.{sym, subst}
use Rattle.sorted_lists.specs.Orders.{AreSorted}
use Rattle.login_table.specs.Logins.{address_of}
use Rattle.login_table.proofs.table.LoginTable.by_address.Goals as goal

pub login_by-requires : goal.login_by-requires
login_by-requires c = subst (λ l. AreSorted address_of c.self.inside.logins l) (sym c.deref.ensures.value) c.self.invariant.by_address.sorted
