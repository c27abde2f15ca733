use Rattle.std.proofs.Common.{◌∙◌, nat_le, sym, true}
use Rattle.std.proofs.Math.Bool.{and-true}
use Rattle.login_table.specs.declared.login.Login.{Login}
use Rattle.fab_roster.proofs.Lookups.{next_port}
use Rattle.fab_roster.proofs.roster.Roster.next.Goals as goal

pub returns : goal.returns
returns c = c.after.ensures.first ∙ next_port c.self.inside c.self.view_is c.args.from (λ p. nat_le c.args.from p.address) (λ l. true) (λ (l : Login). sym (and-true (nat_le c.args.from l.address)))
