use Rattle.fab_sending.proofs.Counting.{live_ids, told_ids}
use Rattle.fab_sending.proofs.noticing.tell_of.Goals as goal

pub tell-requires : goal.tell-requires
tell-requires c = live_ids _ _ c.args.before.now.roster.now.tables.ports _ c.requires.0 (c.in_ok-watchers.ensures c.args.before.now.config.now c.args.before.now.rules)

pub returns : goal.returns
returns c =
    told_ids _ _ c.args.affected c.args.moment c.args.before.now.rscns c.args.before.now.roster.now.tables.ports _ _ _ c.requires.0 (c.in_ok-watchers.ensures c.args.before.now.config.now c.args.before.now.rules) c.in_ok-tell.ensures
