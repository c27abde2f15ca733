use Rattle.fab_replay.proofs.ShowLemmas.{next_is, next_least}
use Rattle.fab_replay.proofs.showing.next_row.Goals as goal

pub returns-clause-row : goal.returns-clause-row
returns-clause-row c order = next_is c.args.from c.in_ok-next_login.field-0 c.args.fabric.now.state.tables.ports c.row_at.result order c.in_ok-next_login.ensures c.row_at.ensures.row

pub returns-clause-least : goal.returns-clause-least
returns-clause-least c = next_least c.args.from c.in_ok-next_login.field-0 c.args.fabric.now.state.tables.ports c.row_at.result c.in_ok-next_login.ensures c.row_at.ensures.address
