use Rattle.pcap_file.specs.Reading.{reader_stand}
use Rattle.pcap_file.specs.Captures.{SoFar}
use Rattle.pcap_file.proofs.captures.records_of.Given as goal

abbrev pub invariant-loop-record : goal.invariant-loop-record
invariant-loop-record g l = SoFar l.port l.slot (reader_stand (g.D.Depot.seen l.fn.depot) l.fn.reader l.fn.budget) (reader_stand (g.D.Depot.seen l.depot) l.reader l.budget) l.records

abbrev pub decreases-loop-record : goal.decreases-loop-record
decreases-loop-record g l = l.budget.frames
