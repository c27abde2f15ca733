use Rattle.std.proofs.Common.{Ok}
use Rattle.fabric_tool.specs.declared.command.Width.TheVariants as widths
use Rattle.fabric_tool.proofs.JournalLemmas.{no_outs, outs_as}
use Rattle.fabric_tool.proofs.replaying.outs_of.Goals as goal

pub returns-in-One : goal.returns-in-One
returns-in-One g c =
    let a = g.D.Depot.seen c.args.depot.now in
    record { reads = outs_as (λ o. o.items) c.args.width widths.One c.args.words.now a a (Ok c.new.result) c.in-One.is (no_outs c.args.words.now a (λ o. o.items) c.new.result c.new.ensures) }

pub returns-in-Two : goal.returns-in-Two
returns-in-Two g c =
    let seen = g.D.Depot.seen in
    record { reads = outs_as (λ o. o.items) c.args.width widths.Two c.args.words.now (seen c.args.depot.now) (seen c.open_each.new.depot) c.open_each.result c.in-Two.is c.open_each.ensures.reads }
