use Rattle.std.proofs.Common.{◌≡◌, map, take}
use Rattle.fab_sending.specs.Counting.{told_at_address, with_changes}
use Rattle.fab_sending.proofs.noticing.tell.Given as goal

abbrev pub invariant-loop-index : goal.invariant-loop-index
invariant-loop-index l =
    l.outs ≡ with_changes l.moment l.before.rscns l.initial.outs (map (told_at_address l.before.roster.now.tables.ports l.affected) (take l.index l.watchers))
