use Rattle.std.proofs.Common.{◌+◌, ◌%◌, ◌∙◌, sym, ap}
use Rattle.std.specs.Option.{option_copied}
use Rattle.fab_sending.specs.Counting.{told_at_address}
use Rattle.fab_sending.proofs.Counting.{one_more, one_told}
use Rattle.fab_sending.proofs.noticing.tell.Goals as goal

pub loop-index-preserved : goal.loop-index-preserved
loop-index-preserved c =
    one_more (told_at_address c.args.before.now.roster.now.tables.ports c.args.affected) c.args.moment c.args.before.now.rscns c.loop-index.index _ c.args.watchers.now c.args.outs.now c.loop-index.outs _
    (sym c.at.ensures ∙ ap option_copied c.unwrap-watcher.ensures) c.loop-index.invariant
    (one_told c.args.moment c.args.before.now.rscns c.args.affected _ _ c.args.before.now.roster.now.tables.ports _ c.loop-index.outs _
    (sym (ap option_copied c.unwrap-login.ensures) ∙ c.by_address.ensures) (c.rscns_after.ensures.count ∙ ap (λ n. (c.args.before.now.rscns + n) % 65535) c.len.ensures) c.in_ok-push.ensures.ok)
