-- What three commands leave in their captures, frame by frame.
use Rattle.std.proofs.Common.{[], length}
use Rattle.fip_snoop.specs.Bridge.{arrivals}
use Rattle.fip_snoop.specs.Laws.{ENodesAreApart}
use Rattle.fip_snoop.specs.Messages.{forwarder_of}
use Rattle.enode_core.specs.Runs.{all_sent}
use Rattle.joined_runs.specs.Sent.{RunSends, EnodeSends, SnoopSends}
use Rattle.joined_runs.proofs.BoxLemmas.{at_moment, of_frame, sent_when, sent_what, output_as, run_left, node_left, bridge_left}
use Rattle.joined_runs.proofs.BridgeLemmas.{moment, bytes, copied, passed_of}
use Rattle.joined_runs.proofs.RunLemmas.{sent_on, sent_there}
use Rattle.joined_runs.proofs.WireLemmas.{left_back}

pub run_sends : RunSends
run_sends k frames entries old new r port name records f x at few among =
    let s = left_back at_moment of_frame (sent_on r.settings (length k.outs) port r.journal) new name (run_left k frames entries old new r port name at) records f few x among in
    output_as r.settings (length k.outs) port r.journal s.0.bytes x.caught s.2 (sent_there r.settings (length k.outs) port r.journal s.0 s.1)

pub enode_sends : EnodeSends
enode_sends k old new last p records f x few among = left_back sent_when sent_what (all_sent k.own k.start p.inputs) new k.to (node_left k old new last p) records f few x among

pub snoop_sends : ENodesAreApart → SnoopSends
snoop_sends sides k passes drops old new s port name records f x at few among =
    let w = forwarder_of s.settings in
    let came = arrivals s.bridged.records in
    let a = left_back moment bytes (copied w port [] came) new name (bridge_left k passes drops old new s port name at) records f few x among in
    (a.0, passed_of sides w port came a.0 a.1, a.2)
