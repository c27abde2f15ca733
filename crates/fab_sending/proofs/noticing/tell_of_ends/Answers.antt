use Rattle.fab_roster.specs.Roll.{Login, addresses_of}
use Rattle.fab_sending.specs.Notices.{told_of_name}
use Rattle.fab_sending.proofs.Counting.{take_item, told_more}
use Rattle.fab_sending.proofs.noticing.tell_of_ends.Goals as goal

pub loop-login-preserved : goal.loop-login-preserved
loop-login-preserved c =
    let b = c.args.before.now in
    let ended = c.args.ended.now in
    told_more (λ (l : Login). told_of_name b.config.now b.roster.now.tables (addresses_of ended) l.address l.name) c.args.moment b.rscns c.loop-login.login-index c.login-item.result ended c.args.outs.now c.loop-login.outs _
    (take_item c.items-login-items.result.now ended c.loop-login.login-index c.login-item.result c.items-login-items.ensures c.loop-login-test.true c.login-item.is) c.loop-login.invariant c.in_ok-tell_of.ensures
