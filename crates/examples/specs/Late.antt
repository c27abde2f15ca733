-- Captures at the end of time, in two forms: their records, and the captures of what is sent.
use Rattle.std.specs.Prelude.{◌≡◌, ℕ, true, false, List, [], ◌∷◌, ◌++◌, refl, map, Ok, codes}
use Rattle.std.specs.Fmt as fmt
use Rattle.fab_base.specs.declared.values.Caught.{Caught}
use Rattle.fab_config.specs.Settings.{Settings}
use Rattle.eth_frames.specs.Ethernet as eth
use Rattle.fip_codec.specs.Message as fip
use Rattle.fip_codec.specs.Reading as reading
use Rattle.pcap_file.specs.Capture as pcap
use Rattle.fab_policy.specs.Journal.{Journal}
use Rattle.fab_policy.specs.Outputs as outs
use Rattle.fab_policy.specs.Text as text
use Rattle.fab_policy.specs.declared.event.Event.TheVariants.{Tick, Frame}
use Rattle.fab_policy.specs.declared.verdict.Verdict.TheVariants.{Vlans}
use Rattle.fab_base.specs.Layout.{zeros}
use Rattle.examples.specs.Given.{bytes}

abbrev pub C : Settings
C = record { switch = 0x100000051e000002; fcf_mac = bytes (codes "00051e000002"); fc_map = 0xefc00; vlan = 100; domain = 1; pool = 2; priority = 128; period = 250; window = 100; limit = 240; zones = []; sets = []; activations = [] }

abbrev pub frame1 : Caught
frame1 = record { bytes = (bytes (codes "011018010002001b2100000a8914100000040001000200000202001b2100000a") ++ zeros 28); whole = true }

abbrev pub file1 : List ℕ
file1 = (bytes (codes "d4c3b2a1020004") ++ zeros 9 ++ bytes (codes "ffff000001000000ffffffff60e316003c0000003c000000")) ++ frame1.bytes

abbrev pub frame2 : Caught
frame2 = record { bytes = (bytes (codes "011018010002001b2100000b810000648914100000040001000200000202001b2100000b") ++ zeros 24); whole = true }

abbrev pub file2 : List ℕ
file2 = (bytes (codes "a1b23c4d00020004") ++ zeros 9 ++ bytes (codes "04000000000001ffffffff3b9ac9ff0000003c0000003c")) ++ frame2.bytes ++ bytes (codes "ffffffff773593ff0000003c0000003c") ++ frame2.bytes

pub head1 : pcap.head_decoded file1 ≡ Ok (record { big = false; nano = false })
unfolding pcap.head_decoded
head1 = refl

pub head2 : pcap.head_decoded file2 ≡ Ok (record { big = true; nano = true })
unfolding pcap.head_decoded
head2 = refl

pub moments1 : map (λ r. r.moment) (pcap.records (record { big = false; nano = false }) file1) ≡ 4294967296500 ∷ []
unfolding pcap.next
moments1 = refl

pub moments2 : map (λ r. r.moment) (pcap.records (record { big = true; nano = true }) file2) ≡ 4294967295999 ∷ 4294967296999 ∷ []
unfolding pcap.next
moments2 = refl

abbrev pub J : Journal
J = Frame 2 1 frame2 Vlans ∷ Tick 4294967296900 [] ∷ Tick 4294967296800 [] ∷ Frame 1 0 frame1 Vlans ∷ Tick 4294967296500 [] ∷ Tick 4294967296200 [] ∷ Frame 2 0 frame2 Vlans ∷ Tick 4294967295900 [] ∷ []

pub lines : text.text J ≡ codes "journal 2\n4294967295900 tick\n4294967295900 2 0 vlans\n4294967296200 tick\n4294967296500 tick\n4294967296500 1 0 vlans\n4294967296800 tick\n4294967296900 tick\n4294967296900 2 1 vlans\n"
unfolding text.text fmt.digits
lines = refl

pub capture1 : text.egress C 2 1 J ≡ (bytes (codes "d4c3b2a1020004") ++ zeros 9 ++ bytes (codes "ffff000001000000ffffffff804f12004c0000004c00000001101801000100051e000002810060648914100000010002000c800501010080020200051e00000204030000100000051e00000205040000000efc00100000051e0000020c020000000000faffffffff60e316004c0000004c00000001101801000100051e000002810060648914100000010002000c800501010080020200051e00000204030000100000051e00000205040000000efc00100000051e0000020c020000000000faffffffff60e316003c0000003c000000001b2100000a00051e000002891410000004000200030000020200051e0000020e010064") ++ zeros 24 ++ bytes (codes "ffffffff40771b004c0000004c00000001101801000100051e000002810060648914100000010002000c800501010080020200051e00000204030000100000051e00000205040000000efc00100000051e0000020c020000000000fa"))
unfolding text.egress outs.outputs_by outs.notices eth.decoded reading.decoded fip.written
capture1 = refl

pub capture2 : text.egress C 2 2 J ≡ (bytes (codes "d4c3b2a1020004") ++ zeros 9 ++ bytes (codes "ffff000001000000ffffffffa0bb0d003c0000003c000000001b2100000b00051e00000281006064891410000004000200030000020200051e0000020e010064") ++ zeros 20 ++ bytes (codes "ffffffff804f12004c0000004c00000001101801000100051e000002810060648914100000010002000c800501010080020200051e00000204030000100000051e00000205040000000efc00100000051e0000020c020000000000faffffffff60e316004c0000004c00000001101801000100051e000002810060648914100000010002000c800501010080020200051e00000204030000100000051e00000205040000000efc00100000051e0000020c020000000000faffffffff40771b004c0000004c00000001101801000100051e000002810060648914100000010002000c800501010080020200051e00000204030000100000051e00000205040000000efc00100000051e0000020c020000000000faffffffffe0fd1c003c0000003c000000001b2100000b00051e00000281006064891410000004000200030000020200051e0000020e010064") ++ zeros 20)
unfolding text.egress outs.outputs_by outs.notices eth.decoded reading.decoded fip.written
capture2 = refl
