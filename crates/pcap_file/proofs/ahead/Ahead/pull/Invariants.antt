use Rattle.std.proofs.Common.{◌-◌, ◌≤◌, length}
use Rattle.pcap_file.specs.Reading.{supply}
use Rattle.pcap_file.proofs.PullLemmas.{Pulled}
use Rattle.pcap_file.proofs.ahead.Ahead.pull.Given as goal

abbrev pub invariant-loop-got : goal.invariant-loop-got
invariant-loop-got g l =
    let seen = g.D.Depot.seen in
    record { pulled : Pulled l.slot l.got l.into (supply l.initial.self (seen l.initial.depot)) (supply l.self (seen l.depot)); bound : l.got ≤ length l.into }

abbrev pub decreases-loop-got : goal.decreases-loop-got
decreases-loop-got g l = length l.initial.into - l.got
