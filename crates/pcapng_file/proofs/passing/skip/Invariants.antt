use Rattle.std.proofs.Common.{◌-◌, ◌≤◌}
use Rattle.pcap_file.specs.Reading.{supply}
use Rattle.pcapng_file.proofs.PassingLemmas.{Passed}
use Rattle.pcapng_file.proofs.passing.skip.Given as goal

abbrev pub invariant-loop-passed : goal.invariant-loop-passed
invariant-loop-passed g l =
    let seen = g.D.Depot.seen in
    record { passed : Passed l.slot l.passed (supply l.initial.ahead (seen l.initial.depot)) (supply l.ahead (seen l.depot)); bound : l.passed ≤ l.count }

abbrev pub decreases-loop-passed : goal.decreases-loop-passed
decreases-loop-passed g l = l.count - l.passed
