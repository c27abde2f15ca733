use Rattle.fab_replay.proofs.EachLemmas.{Feeding}
use Rattle.fab_replay.proofs.all_outputs.feed_each.Given as goal

abbrev pub invariant-loop-port : goal.invariant-loop-port
invariant-loop-port g l =
    let seen = g.D.Depot.seen in
    Feeding l.slots l.pages l.port (seen l.initial.depot) (seen l.depot) l.initial.all l.all
