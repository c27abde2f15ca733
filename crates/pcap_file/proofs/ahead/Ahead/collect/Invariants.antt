use Rattle.std.proofs.Common.{◌-◌, ◌≤◌, vec_len, vec_capacity}
use Rattle.pcap_file.specs.Reading.{supply}
use Rattle.pcap_file.proofs.CollectLemmas.{Collected}
use Rattle.pcap_file.proofs.ahead.Ahead.collect.Given as goal

abbrev pub invariant-loop-self : goal.invariant-loop-self
invariant-loop-self g l =
    let seen = g.D.Depot.seen in
    record { collected : Collected l.slot l.into.items (supply l.initial.self (seen l.initial.depot)) (supply l.self (seen l.depot)); bound : vec_len l.into ≤ l.count; room : l.count ≤ vec_capacity l.into }

abbrev pub decreases-loop-self : goal.decreases-loop-self
decreases-loop-self g l = l.count - vec_len l.into
