use Rattle.fab_replay.proofs.ShowLemmas.{row_is, key-item_at}
use Rattle.fab_replay.proofs.showing.row_at.Goals as goal

pub returns-clause-row : goal.returns-clause-row
returns-clause-row c =
    row_is c.args.address _ (λ p there. key-item_at (λ q. q.address) c.args.address c.args.fabric.now.state.tables.ports p there) c.in_ok-login.login.now c.in_ok-node_heard.node_heard c.in_ok-node_heard.port_heard c.in_ok-node_name.field-0 c.unwrap_or.result c.watch.result c.in_ok-types.field-0
    c.in_ok-login.ensures c.in_ok-node_heard.ensures c.in_ok-node_name.ensures c.in_ok-types.ensures c.watch.ensures c.unwrap_or.ensures
