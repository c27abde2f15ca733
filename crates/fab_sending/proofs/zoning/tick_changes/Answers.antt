use Rattle.std.proofs.Common.{sym}
use Rattle.fab_sending.proofs.Counting.{after_clock, before_clock}
use Rattle.fab_sending.proofs.zoning.tick_changes.Goals as goal

pub returns-in-None : goal.returns-in-None
returns-in-None c =
    before_clock c.args.before.now.config.now c.args.before.now.roster.now.tables c.args.moment c.args.before.now.rscns c.args.ended.now c.empty-outs.result c.tell_of_ends.new.outs
    c.requires.ended c.empty-outs.ensures (sym c.in-None.ensures.clock) c.in_ok-tell_of_ends.ensures

pub returns-in_ok-tell_of_changes-in-Some : goal.returns-in_ok-tell_of_changes-in-Some
returns-in_ok-tell_of_changes-in-Some c =
    after_clock c.args.before.now.config.now c.args.before.now.roster.now.tables c.args.moment c.args.before.now.rscns c.in-Some.since c.args.ended.now c.empty-outs.result c.tell_of_ends.new.outs c.tell_of_changes.new.outs
    c.requires.ended c.empty-outs.ensures (sym c.in-Some.ensures.clock) c.in_ok-tell_of_ends.ensures c.in_ok-tell_of_changes-in-Some.ensures
