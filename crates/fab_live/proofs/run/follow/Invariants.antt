use Rattle.fab_live.specs.Files.{slots_of}
use Rattle.fab_live.proofs.LoopLemmas.{Looping}
use Rattle.fab_live.proofs.run.follow.Given as goal

abbrev pub invariant-packets : goal.invariant-packets
invariant-packets g l =
    let seen = g.D.Depot.seen in
    Looping l.fn.live.fabric.settings (slots_of l.files) l.stream l.fn.budget (seen l.fn.depot) l.live l.packets (seen l.depot)

abbrev pub decreases-packets : goal.decreases-packets
decreases-packets g l = l.packets.here.left.frames
