use Rattle.std.proofs.Common.{arith, subst, sym}
use Rattle.fc_addresses.specs.Pool.{AreEndedBy}
use Rattle.fc_addresses.proofs.PoolLemmas.{ended-released}
use Rattle.fc_addresses.proofs.pool.Pool.release.Goals as goal

pub returns-clause-order : goal.returns-clause-order
returns-clause-order c = subst (AreEndedBy c.args.now) (sym c.end_login.ensures.pool) (ended-released c.args.address c.args.now c.args.now c.args.self.now (omega arith) c.requires.order)
