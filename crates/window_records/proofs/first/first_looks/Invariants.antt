use Rattle.fab_config.specs.Settings.{Settings}
use Rattle.window_records.proofs.FirstLemmas.{Seeing}
use Rattle.window_records.specs.Ports.{walk_at}
use Rattle.window_records.specs.First.{start_at}
use Rattle.window_records.proofs.first.first_looks.Given as goal

abbrev pub invariant-loop-port : goal.invariant-loop-port
invariant-loop-port g l =
    let seen = g.D.Depot.seen in
    (c : Settings) → Seeing c l.port (start_at (seen l.initial.depot) l.initial.ins l.initial.budget) (walk_at (seen l.depot) l.ins l.shelves.items l.budget)
