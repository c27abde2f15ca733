use Rattle.std.proofs.Common.{◌∙◌, ℕ, ap, sym, subst}
use Rattle.fab_base.specs.Keyed.{item_at}
use Rattle.sorted_lists.specs.Orders.{seen, AreSorted}
use Rattle.login_table.specs.Logins.{name_of, named}
use Rattle.login_table.proofs.KeptLemmas.{named_found}
use Rattle.login_table.proofs.table.LoginTable.by_name.Goals as goal

pub login_by-requires : goal.login_by-requires
login_by-requires c = subst (λ l. AreSorted name_of c.self.inside.logins l) (sym c.deref.ensures.value) c.self.invariant.by_name.sorted

pub returns-clause-login : goal.returns-clause-login
returns-clause-login c =
    rw (← c.self.view_is)
    (c.login_by.ensures ∙ ap (λ l. item_at name_of c.name.inside.0 (seen c.self.inside.logins l)) c.deref.ensures.value ∙ named_found c.self.invariant _
    ∙ ap (λ (k : ℕ). named k (seen c.self.inside.logins c.self.inside.by_address.items)) c.name.view_is)
