use Rattle.std.proofs.Common.{map}
use Rattle.fab_policy.specs.Outputs.{told}
use Rattle.fab_roster.specs.Reaching.{told_between}
use Rattle.fab_roster.specs.Roll.{Login, addresses_of}
use Rattle.fab_sending.proofs.Counting.{live_ids, take_item, told_ids, told_more}
use Rattle.fab_sending.proofs.noticing.tell_of_zones.Goals as goal

pub tell-requires : goal.tell-requires
tell-requires c = live_ids _ _ c.args.before.now.roster.now.tables.ports _ c.requires.0 (c.in_ok-watchers.ensures c.args.before.now.config.now c.args.before.now.rules)

pub loop-login-preserved : goal.loop-login-preserved
loop-login-preserved c =
    let b = c.args.before.now in
    let T = b.roster.now.tables in
    told_more (λ (l : Login). map (λ w. told w l.address) (told_between b.config.now T c.args.since c.args.moment l.name (addresses_of c.args.ended.now))) c.args.moment b.rscns
    c.loop-login.login-index c.login-item.result c.args.live.now c.args.outs.now c.loop-login.outs _
    (take_item c.items-login-items.result.now c.args.live.now c.loop-login.login-index c.login-item.result c.items-login-items.ensures c.loop-login-test.true c.login-item.is) c.loop-login.invariant
    (told_ids _ _ c.login-item.result.address c.args.moment b.rscns T.ports _ _ _ c.requires.0 (c.in_ok-watchers.ensures b.config.now b.rules) c.in_ok-tell.ensures)
