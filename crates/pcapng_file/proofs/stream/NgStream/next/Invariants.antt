use Rattle.pcapng_file.specs.Stream.{stream_stand}
use Rattle.pcapng_file.proofs.StreamLemmas.{Passing}
use Rattle.pcapng_file.proofs.stream.NgStream.next.Given as goal

abbrev pub invariant-loop-record : goal.invariant-loop-record
invariant-loop-record g l =
    let seen = g.D.Depot.seen in
    Passing l.slot (stream_stand l.initial.self (seen l.initial.depot)) (stream_stand l.self (seen l.depot))

abbrev pub decreases-loop-record : goal.decreases-loop-record
decreases-loop-record g l = l.self.here.left.bytes
