use Rattle.fab_replay.proofs.EachLemmas.{Finishing}
use Rattle.fab_replay.proofs.all_outputs.finish_each.Given as goal

abbrev pub invariant-loop-port : goal.invariant-loop-port
invariant-loop-port g l =
    let seen = g.D.Depot.seen in
    Finishing l.slots l.port (seen l.initial.depot) (seen l.depot) l.all
