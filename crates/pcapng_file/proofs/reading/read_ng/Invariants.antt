use Rattle.std.proofs.Common.{◌≡◌, ◌-◌}
use Rattle.pcap_file.specs.Reading.{supply}
use Rattle.pcapng_file.specs.File.{place}
use Rattle.pcapng_file.proofs.GoingLemmas.{Going}
use Rattle.pcapng_file.proofs.reading.read_ng.Given as goal

abbrev pub invariant-loop-next : goal.invariant-loop-next
invariant-loop-next g l =
    let seen = g.D.Depot.seen in
    record {
      going : Going l.slot l.fn.budget (seen l.initial.depot) (supply l.ahead (seen l.depot)) (place (l.fn.budget.bytes - l.left.bytes) l.section l.left) l.records;
      budget : l.budget ≡ l.fn.budget;
    }

abbrev pub decreases-loop-next : goal.decreases-loop-next
decreases-loop-next g l = l.left.bytes
