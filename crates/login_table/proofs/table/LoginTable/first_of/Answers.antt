use Rattle.std.proofs.Common.{◌∙◌, ap}
use Rattle.sorted_lists.specs.Orders.{seen}
use Rattle.login_table.specs.Sound.{first_behind}
use Rattle.login_table.proofs.KeptLemmas.{first_of_enode}
use Rattle.login_table.proofs.table.LoginTable.first_of.Goals as goal

pub returns-clause-first : goal.returns-clause-first
returns-clause-first c =
    rw (← c.self.view_is)
    (c.first_behind.ensures.value ∙ ap (λ l. first_behind c.args.enode.now c.args.from (seen c.self.inside.logins l)) c.deref.ensures.value
    ∙ first_of_enode c.self.invariant c.args.enode.now c.first_behind.ensures.whole c.args.from)
