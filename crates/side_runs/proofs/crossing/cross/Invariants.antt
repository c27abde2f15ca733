use Rattle.std.proofs.Common.{length}
use Rattle.fip_snoop.specs.Bridge.{arrivals}
use Rattle.fip_snoop.specs.Queue.{left_in}
use Rattle.run_files.specs.Pages.{AreShort, items_in}
use Rattle.side_runs.proofs.CrossLemmas.{Crossing}
use Rattle.side_runs.proofs.crossing.cross.Given as goal

abbrev pub invariant-loop-head : goal.invariant-loop-head
invariant-loop-head g l = let seen = g.D.Depot.seen in Crossing l.fn.bridge.snoop.forwarder l.ins l.outs (seen l.fn.depot) (seen l.depot) l.bridge × AreShort (items_in l.bridge.pages.items)

abbrev pub decreases-loop-head : goal.decreases-loop-head
decreases-loop-head g l = length (arrivals (left_in l.ins l.bridge.places.items))
