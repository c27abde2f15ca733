use Rattle.std.proofs.Common.{◌∙◌, sym}
use Rattle.fab_roster.proofs.Lookups.{login_of_port}
use Rattle.fab_roster.proofs.TablesRead.{heard_there, node_there, port_there}
use Rattle.fab_roster.proofs.roster.Roster.heard.Goals as goal

pub returns-in_err-node : goal.returns-in_err-node
returns-in_err-node c =
    let l = c.args.login.now in
    absurd (node_there c.self.invariant l.address l (login_of_port c.self.inside c.self.view_is l.address ∙ c.requires.live) (sym c.in_err-node.ensures.moment))

pub returns-in_err-port : goal.returns-in_err-port
returns-in_err-port c =
    let l = c.args.login.now in
    absurd (port_there c.self.invariant l.address l (login_of_port c.self.inside c.self.view_is l.address ∙ c.requires.live) (sym c.in_err-port.ensures.moment))

pub returns : goal.returns
returns c =
    let l = c.args.login.now in
    heard_there c.self.invariant c.self.view_is l.address c.in_ok-node.node c.in_ok-port.port l (login_of_port c.self.inside c.self.view_is l.address ∙ c.requires.live) (sym c.in_ok-node.ensures.moment) (sym c.in_ok-port.ensures.moment)
