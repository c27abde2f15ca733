use Rattle.std.proofs.Common.{◌≡◌, IsSome, Some, ap, is_some}
use Rattle.fab_policy.specs.State.{port_at}
use Rattle.fab_policy.specs.Steps.{fresh}
use Rattle.fab_policy.specs.State.{now_of}
use Rattle.fab_roster.proofs.RestoreLemmas.{granted_there, n_port_of, restores, still_there}
use Rattle.fab_roster.proofs.roster.Roster.restore.Goals as goal

pub hear_both-requires-clause-live : goal.hear_both-requires-clause-live
hear_both-requires-clause-live c = ap is_some (granted_there c.args.login c.grant.ensures.change)

pub set_server-requires-clause-live : goal.set_server-requires-clause-live
set_server-requires-clause-live c =
    let found = granted_there c.args.login c.grant.ensures.change in
    still_there c.args.login.address (c.hear_both.ensures.change _ found) (ap is_some found)

pub watch-requires-clause-live : goal.watch-requires-clause-live
watch-requires-clause-live c =
    let found = granted_there c.args.login c.grant.ensures.change in
    still_there c.args.login.address c.set_server.ensures.change (still_there c.args.login.address (c.hear_both.ensures.change _ found) (ap is_some found))

pub set_values-requires : goal.set_values-requires
set_values-requires c =
    let found = granted_there c.args.login c.grant.ensures.change in record {
      live = still_there c.args.login.address c.watch.ensures.change
          (still_there c.args.login.address c.set_server.ensures.change (still_there c.args.login.address (c.hear_both.ensures.change _ found) (ap is_some found)));
    }

pub returns-clause-change : goal.returns-clause-change
returns-clause-change c =
    let found = granted_there c.args.login c.grant.ensures.change in
    restores c.args.login c.args.node_heard c.args.port_heard c.args.watch c.asked_with.result c.args.values.now c.asked_with.ensures.watch c.grant.ensures.change (c.hear_both.ensures.change _ found)
    c.set_server.ensures.change c.watch.ensures.change c.set_values.ensures.change
