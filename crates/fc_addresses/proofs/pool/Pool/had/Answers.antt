use Rattle.std.proofs.Common.{◌∙◌, subst, sym}
use Rattle.fc_addresses.specs.Pool.{AreEndedBy}
use Rattle.fc_addresses.proofs.PoolLemmas.{free-never, held-taken, found-had, ended-taken, ended-released}
use Rattle.fc_addresses.proofs.pool.Pool.had.Goals as goal

pub take-requires : goal.take-requires
take-requires c = record { free = free-never c.args.name c.args.end c.args.address c.args.self.now c.requires.unused }

pub end_login-requires : goal.end_login-requires
end_login-requires c = held-taken c.args.address c.args.name c.args.self.now c.take.new.self c.take.ensures.found

pub returns-clause-found : goal.returns-clause-found
returns-clause-found c = found-had c.args.address c.args.name c.args.end c.args.self.now c.take.new.self c.end_login.new.self c.take.ensures.found c.end_login.ensures.found

pub returns-clause-places : goal.returns-clause-places
returns-clause-places c = c.end_login.ensures.places ∙ c.take.ensures.places

pub returns-clause-order : goal.returns-clause-order
returns-clause-order c = λ now by before.
    subst (AreEndedBy now) (sym c.end_login.ensures.pool)
    (ended-released c.args.address c.args.end now c.take.new.self by
    (subst (AreEndedBy now) (sym c.take.ensures.pool) (ended-taken c.args.address c.args.name now c.args.self.now before)))
