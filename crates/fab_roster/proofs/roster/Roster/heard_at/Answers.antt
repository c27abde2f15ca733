use Rattle.std.proofs.Common.{ap, ◌∙◌, option_map}
use Rattle.fab_policy.specs.State.{port_at}
use Rattle.fab_roster.proofs.Lookups.{found_login, none_found}
use Rattle.fab_roster.proofs.TablesRead.{heard_of}
use Rattle.fab_roster.proofs.roster.Roster.heard_at.Goals as goal

pub returns-in_err-login : goal.returns-in_err-login
returns-in_err-login c = c.from_residual.ensures ∙ none_found heard_of (port_at c.args.address c.args.self.now.tables.ports) c.in_err-login.ensures

pub heard-requires : goal.heard-requires
heard-requires c = record { live = (found_login c.args.address c.args.self.now.tables.ports c.in_ok-login.login.now c.in_ok-login.ensures).1 }

pub returns : goal.returns
returns c =
    let ports = c.args.self.now.tables.ports in
    c.heard.ensures ∙ ap (λ a. option_map heard_of (port_at a ports)) (found_login c.args.address ports c.in_ok-login.login.now c.in_ok-login.ensures).0
