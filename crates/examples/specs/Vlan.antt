-- A VLAN request from the capture to the journal and the capture of the answer.
use Rattle.std.specs.Prelude.{◌≡◌, List, [], ◌∷◌, ◌++◌, refl, codes}
use Rattle.std.specs.Fmt as fmt
use Rattle.fab_base.specs.Layout.{zeros}
use Rattle.fab_policy.specs.Journal.{Journal}
use Rattle.fab_policy.specs.State as state
use Rattle.std.proofs.Common.{lit≤}
use Rattle.pcap_file.specs.declared.Record.{Record}
use Rattle.fab_policy.specs.Legal as legal
use Rattle.fab_policy.specs.Verdicts as verdicts
use Rattle.fab_policy.specs.Rules as rules
use Rattle.heard_frames.specs.Heard as heard
use Rattle.fab_policy.specs.Outputs as outs
use Rattle.fab_policy.specs.Text as text
use Rattle.fab_policy.specs.declared.event.Event.TheVariants.{Tick, Frame}
use Rattle.fab_policy.specs.declared.verdict.Verdict.TheVariants.{Vlans}
use Rattle.eth_frames.specs.Ethernet as eth
use Rattle.fip_codec.specs.Message as fip
use Rattle.fip_codec.specs.Reading as reading
use Rattle.pcap_file.specs.Capture as pcap
use Rattle.examples.specs.Given.{K, MAC_A, FORWARDER, vlan_request}

-- tick 1000, 1 0 vlans
abbrev pub J1 : Journal
J1 = Frame 1 0 vlan_request Vlans ∷ Tick 1000 [] ∷ []

pub right : verdicts.IsRight K (state.tables_of K (Tick 1000 [] ∷ [])) 1 vlan_request Vlans
unfolding verdicts.judged rules.rule_for heard.decoded eth.decoded reading.decoded
right = refl

pub journal : text.text J1 ≡ codes "journal 2\n1000 tick\n1000 1 0 vlans\n"
unfolding text.text fmt.digits
journal = refl

pub journal1 : text.text1 J1 ≡ codes "tick 1000\n1 0 vlans\n"
unfolding text.text1 fmt.digits
journal1 = refl

pub answer : text.egress K 1 1 J1 ≡ pcap.head_bytes ++ 1 ∷ 0 ∷ 0 ∷ 0 ∷ 0 ∷ 0 ∷ 0 ∷ 0 ∷ 0x3c ∷ 0 ∷ 0 ∷ 0 ∷ 0x3c ∷ 0 ∷ 0 ∷ 0 ∷
    MAC_A ++ FORWARDER ++ 0x89 ∷ 0x14 ∷ 0x10 ∷ 0 ∷ 0 ∷ 4 ∷ 0 ∷ 2 ∷ 0 ∷ 3 ∷ 0 ∷ 0 ∷ 2 ∷ 2 ∷ FORWARDER ++ 0x0e ∷ 1 ∷ 0 ∷ 0x64 ∷ zeros 24
unfolding text.egress outs.outputs_by outs.notices eth.decoded fip.written
answer = refl

-- the records of the capture
abbrev pub records : List Record
records = record { moment = 1000; caught = vlan_request } ∷ []

-- the journal is a run over them
pub run : legal.Run K (records ∷ []) J1
unfolding verdicts.judged rules.rule_for heard.decoded eth.decoded reading.decoded
run = record {
  ports = (tt, lit≤ tt, lit≤ tt);
  frames = (refl, tt);
  legal = ((tt, refl), (refl, refl));
  timed = ((tt, (1000, (refl, refl), refl)), refl);
}
