-- An N_Port whose ENode is heard and that is silent itself, and one that is heard.
use Rattle.std.specs.Prelude.{◌≡◌, ℕ, ◌==◌, unwrap_or, true, false, List, [], ◌∷◌, ◌++◌, refl, map, filter, codes}
use Rattle.fab_base.specs.declared.values.Caught.{Caught}
use Rattle.fab_config.specs.Settings.{Settings}
use Rattle.fab_policy.specs.State as state
use Rattle.fab_policy.specs.Verdicts as verdicts
use Rattle.ct_messages.specs.Server as server
use Rattle.fab_policy.specs.Legal as legal
use Rattle.fab_policy.specs.Rules as rules
use Rattle.heard_frames.specs.Heard as heard
use Rattle.fab_policy.specs.Outputs as outs
use Rattle.fab_policy.specs.declared.event.Event.{Event}
use Rattle.fab_policy.specs.declared.event.Event.TheVariants.{Tick, Frame}
use Rattle.fab_policy.specs.declared.verdict.Verdict.TheVariants.{Vlans, Granted, AliveNode, AlivePort}
use Rattle.eth_frames.specs.Ethernet as eth
use Rattle.fc_check.specs.Crc as crc
use Rattle.fc_frames.specs.Frame as fc
use Rattle.fcoe_codec.specs.Fcoe as capsule
use Rattle.fip_codec.specs.Message as fip
use Rattle.fip_codec.specs.Reading as reading
use Rattle.els_messages.specs.Els as els
use Rattle.ct_messages.specs.Ct as ct
use Rattle.ct_messages.specs.Answer as answer
use Rattle.zone_rules.specs.Joined as zones
use Rattle.std.specs.Fmt as fmt
use Rattle.fab_policy.specs.Journal.{Journal}
use Rattle.fab_policy.specs.Text as text
use Rattle.fab_base.specs.Layout.{zeros}
use Rattle.examples.specs.Given.{bytes}

abbrev pub C : Settings
C = record { switch = 0x100000051e000002; fcf_mac = bytes (codes "00051e000002"); fc_map = 0xefc00; vlan = 100; domain = 1; pool = 4; priority = 128; period = 90000; window = 100; limit = 240; zones = []; sets = []; activations = [] }

abbrev pub J0 : Journal
J0 = []

-- 1000 tick
abbrev pub entry0 : Event
entry0 = Tick 1000 []

pub entry0_ends_these : state.addresses (state.overdue C (state.tables_of C J0) 1000) ≡ []
unfolding eth.decoded fc.decoded reading.decoded heard.carried heard.is_flogi
entry0_ends_these = refl

abbrev pub J1 : Journal
J1 = entry0 ∷ J0

abbrev pub frame1 : Caught
frame1 = record { bytes = (bytes (codes "00051e000002001b2100000a810000648914100000020001002680000724000022fffffe0000000001290000000000000001ffff00000000040000002020000080000840") ++ zeros 8 ++ bytes (codes "2000001b2100000a1000001b21000001") ++ zeros 32 ++ (128 ∷ []) ++ zeros 47 ++ bytes (codes "0202000000000000")); whole = true }

-- 1000 1 0 granted 010100
abbrev pub entry1 : Event
entry1 = Frame 1 0 frame1 (Granted 0x010100)

pub entry1_is_right : verdicts.IsRight C (state.tables_of C J1) 1 frame1 (Granted 0x010100)
unfolding eth.decoded fc.decoded reading.decoded heard.carried heard.is_flogi heard.decoded capsule.decoded crc.crc crc.remainder els.decoded ct.decoded zones.joined rules.rule_for verdicts.judged
entry1_is_right = refl

abbrev pub J2 : Journal
J2 = entry1 ∷ J1

-- 1100 tick
abbrev pub entry2 : Event
entry2 = Tick 1100 []

pub entry2_ends_these : state.addresses (state.overdue C (state.tables_of C J2) 1100) ≡ []
unfolding eth.decoded fc.decoded reading.decoded heard.carried heard.is_flogi
entry2_ends_these = refl

abbrev pub J3 : Journal
J3 = entry2 ∷ J2

abbrev pub frame3 : Caught
frame3 = record { bytes = (bytes (codes "00051e000002001b2100000a810000648914100000020001002680000824000022fffffe0000000001290000000000000001ffff00000000510000002020000080000840") ++ zeros 8 ++ bytes (codes "2000001b2100000b1000001b21000001") ++ zeros 32 ++ (128 ∷ []) ++ zeros 47 ++ bytes (codes "0202000000000000")); whole = true }

-- 1100 1 1 granted 010101
abbrev pub entry3 : Event
entry3 = Frame 1 1 frame3 (Granted 0x010101)

pub entry3_is_right : verdicts.IsRight C (state.tables_of C J3) 1 frame3 (Granted 0x010101)
unfolding eth.decoded fc.decoded reading.decoded heard.carried heard.is_flogi heard.decoded capsule.decoded crc.crc crc.remainder els.decoded ct.decoded zones.joined rules.rule_for verdicts.judged
entry3_is_right = refl

abbrev pub J4 : Journal
J4 = entry3 ∷ J3

-- 91000 tick
abbrev pub entry4 : Event
entry4 = Tick 91000 []

pub entry4_ends_these : state.addresses (state.overdue C (state.tables_of C J4) 91000) ≡ []
unfolding eth.decoded fc.decoded reading.decoded heard.carried heard.is_flogi
entry4_ends_these = refl

pub entry4_is_owed : legal.is_owed_after C J4 91000 ≡ true
unfolding eth.decoded fc.decoded reading.decoded heard.carried heard.is_flogi legal.is_tick_owed
entry4_is_owed = refl

pub entry4_is_owed_no_earlier : legal.is_owed_after C J4 90900 ≡ false
unfolding eth.decoded fc.decoded reading.decoded heard.carried heard.is_flogi legal.is_tick_owed
entry4_is_owed_no_earlier = refl

abbrev pub J5 : Journal
J5 = entry4 ∷ J4

-- 181000 tick
abbrev pub entry5 : Event
entry5 = Tick 181000 []

pub entry5_ends_these : state.addresses (state.overdue C (state.tables_of C J5) 181000) ≡ []
unfolding eth.decoded fc.decoded reading.decoded heard.carried heard.is_flogi
entry5_ends_these = refl

pub entry5_is_owed : legal.is_owed_after C J5 181000 ≡ true
unfolding eth.decoded fc.decoded reading.decoded heard.carried heard.is_flogi legal.is_tick_owed
entry5_is_owed = refl

pub entry5_is_owed_no_earlier : legal.is_owed_after C J5 180900 ≡ false
unfolding eth.decoded fc.decoded reading.decoded heard.carried heard.is_flogi legal.is_tick_owed
entry5_is_owed_no_earlier = refl

abbrev pub J6 : Journal
J6 = entry5 ∷ J5

-- 200000 tick
abbrev pub entry6 : Event
entry6 = Tick 200000 []

pub entry6_ends_these : state.addresses (state.overdue C (state.tables_of C J6) 200000) ≡ []
unfolding eth.decoded fc.decoded reading.decoded heard.carried heard.is_flogi
entry6_ends_these = refl

pub entry6_is_owed_no_earlier : legal.is_owed_after C J6 199900 ≡ false
unfolding eth.decoded fc.decoded reading.decoded heard.carried heard.is_flogi legal.is_tick_owed
entry6_is_owed_no_earlier = refl

abbrev pub J7 : Journal
J7 = entry6 ∷ J6

abbrev pub frame7 : Caught
frame7 = record { bytes = bytes (codes "00051e000002001b2100000a810000648914100000030001000200000202001b2100000a"); whole = true }

-- 200000 1 2 alive
abbrev pub entry7 : Event
entry7 = Frame 1 2 frame7 AliveNode

pub entry7_is_right : verdicts.IsRight C (state.tables_of C J7) 1 frame7 AliveNode
unfolding eth.decoded fc.decoded reading.decoded heard.carried heard.is_flogi heard.decoded capsule.decoded crc.crc crc.remainder els.decoded ct.decoded zones.joined rules.rule_for verdicts.judged
entry7_is_right = refl

abbrev pub J8 : Journal
J8 = entry7 ∷ J7

-- 200100 tick
abbrev pub entry8 : Event
entry8 = Tick 200100 []

pub entry8_ends_these : state.addresses (state.overdue C (state.tables_of C J8) 200100) ≡ []
unfolding eth.decoded fc.decoded reading.decoded heard.carried heard.is_flogi
entry8_ends_these = refl

abbrev pub J9 : Journal
J9 = entry8 ∷ J8

abbrev pub frame9 : Caught
frame9 = record { bytes = bytes (codes "00051e0000020efc00010101810000648914100000030001000700000202001b2100000a0b050efc00010101000101012000001b2100000b"); whole = true }

-- 200100 1 3 alive 010101
abbrev pub entry9 : Event
entry9 = Frame 1 3 frame9 (AlivePort 0x010101)

pub entry9_is_right : verdicts.IsRight C (state.tables_of C J9) 1 frame9 (AlivePort 0x010101)
unfolding eth.decoded fc.decoded reading.decoded heard.carried heard.is_flogi heard.decoded capsule.decoded crc.crc crc.remainder els.decoded ct.decoded zones.joined rules.rule_for verdicts.judged
entry9_is_right = refl

abbrev pub J10 : Journal
J10 = entry9 ∷ J9

-- 226100 tick 010100
abbrev pub entry10 : Event
entry10 = Tick 226100 (0x10100 ∷ [])

pub entry10_ends_these : state.addresses (state.overdue C (state.tables_of C J10) 226100) ≡ 0x10100 ∷ []
unfolding eth.decoded fc.decoded reading.decoded heard.carried heard.is_flogi
entry10_ends_these = refl

pub entry10_is_owed : legal.is_owed_after C J10 226100 ≡ true
unfolding eth.decoded fc.decoded reading.decoded heard.carried heard.is_flogi legal.is_tick_owed
entry10_is_owed = refl

pub entry10_is_owed_no_earlier : legal.is_owed_after C J10 226000 ≡ false
unfolding eth.decoded fc.decoded reading.decoded heard.carried heard.is_flogi legal.is_tick_owed
entry10_is_owed_no_earlier = refl

abbrev pub J11 : Journal
J11 = entry10 ∷ J10

-- 230000 tick
abbrev pub entry11 : Event
entry11 = Tick 230000 []

pub entry11_ends_these : state.addresses (state.overdue C (state.tables_of C J11) 230000) ≡ []
unfolding eth.decoded fc.decoded reading.decoded heard.carried heard.is_flogi
entry11_ends_these = refl

pub entry11_is_owed_no_earlier : legal.is_owed_after C J11 229900 ≡ false
unfolding eth.decoded fc.decoded reading.decoded heard.carried heard.is_flogi legal.is_tick_owed
entry11_is_owed_no_earlier = refl

abbrev pub J12 : Journal
J12 = entry11 ∷ J11

abbrev pub frame12 : Caught
frame12 = record { bytes = bytes (codes "011018010002001b2100000b8914100000040001000200000202001b2100000b"); whole = true }

-- 230000 2 0 vlans
abbrev pub entry12 : Event
entry12 = Frame 2 0 frame12 Vlans

pub entry12_is_right : verdicts.IsRight C (state.tables_of C J12) 2 frame12 Vlans
unfolding eth.decoded fc.decoded reading.decoded heard.carried heard.is_flogi heard.decoded capsule.decoded crc.crc crc.remainder els.decoded ct.decoded zones.joined rules.rule_for verdicts.judged
entry12_is_right = refl

abbrev pub J13 : Journal
J13 = entry12 ∷ J12

pub sent_at_entry0_on_port1 : map (λ s. s.bytes) (filter (λ s. s.port == 1) (outs.outputs_by C 2 (record { tables = state.tables_of C J0; advertised = outs.advertised_at C J0; rscns = 0 }) (state.tables_of C J1) entry0 ++ outs.outputs_by C 2 (record { tables = state.tables_of C J1; advertised = outs.advertised_at C J1; rscns = 0 }) (state.tables_of C J2) entry1)) ≡ (bytes (codes "001b2100000a00051e00000281006064891410000002000200268000072400002301010000fffffe01980000000000000001ffff0000000002000000202000003000084000002710000007d0200100051e000002100000051e000002") ++ zeros 32 ++ (136 ∷ []) ++ zeros 47 ++ bytes (codes "02020efc00010100")) ∷ []
unfolding eth.decoded fc.decoded reading.decoded heard.carried heard.is_flogi capsule.written crc.crc crc.remainder fip.written els.written ct.decoded answer.written zones.joined server.query server.feature_word server.feature_words outs.notices outs.outputs_by
sent_at_entry0_on_port1 = refl

pub sent_at_entry2_on_port1 : map (λ s. s.bytes) (filter (λ s. s.port == 1) (outs.outputs_by C 2 (record { tables = state.tables_of C J2; advertised = outs.advertised_at C J2; rscns = 0 }) (state.tables_of C J3) entry2 ++ outs.outputs_by C 2 (record { tables = state.tables_of C J3; advertised = outs.advertised_at C J3; rscns = 0 }) (state.tables_of C J4) entry3)) ≡ (bytes (codes "001b2100000a00051e00000281006064891410000002000200268000082400002301010100fffffe01980000000000000001ffff0000000002000000202000003000084000002710000007d0200100051e000002100000051e000002") ++ zeros 32 ++ (136 ∷ []) ++ zeros 47 ++ bytes (codes "02020efc00010101")) ∷ []
unfolding eth.decoded fc.decoded reading.decoded heard.carried heard.is_flogi capsule.written crc.crc crc.remainder fip.written els.written ct.decoded answer.written zones.joined server.query server.feature_word server.feature_words outs.notices outs.outputs_by
sent_at_entry2_on_port1 = refl

pub sent_at_entry4_on_port1 : map (λ s. s.bytes) (filter (λ s. s.port == 1) (outs.outputs_by C 2 (record { tables = state.tables_of C J4; advertised = outs.advertised_at C J4; rscns = 0 }) (state.tables_of C J5) entry4)) ≡ bytes (codes "01101801000100051e000002810060648914100000010002000c800501010080020200051e00000204030000100000051e00000205040000000efc00100000051e0000020c02000000015f90") ∷ []
unfolding eth.decoded fc.decoded reading.decoded heard.carried heard.is_flogi capsule.written crc.crc crc.remainder fip.written els.written ct.decoded answer.written zones.joined server.query server.feature_word server.feature_words outs.notices outs.outputs_by
sent_at_entry4_on_port1 = refl

pub sent_at_entry4_on_port2 : map (λ s. s.bytes) (filter (λ s. s.port == 2) (outs.outputs_by C 2 (record { tables = state.tables_of C J4; advertised = outs.advertised_at C J4; rscns = 0 }) (state.tables_of C J5) entry4)) ≡ bytes (codes "01101801000100051e000002810060648914100000010002000c800501010080020200051e00000204030000100000051e00000205040000000efc00100000051e0000020c02000000015f90") ∷ []
unfolding eth.decoded fc.decoded reading.decoded heard.carried heard.is_flogi capsule.written crc.crc crc.remainder fip.written els.written ct.decoded answer.written zones.joined server.query server.feature_word server.feature_words outs.notices outs.outputs_by
sent_at_entry4_on_port2 = refl

pub sent_at_entry5_on_port1 : map (λ s. s.bytes) (filter (λ s. s.port == 1) (outs.outputs_by C 2 (record { tables = state.tables_of C J5; advertised = outs.advertised_at C J5; rscns = 0 }) (state.tables_of C J6) entry5)) ≡ bytes (codes "01101801000100051e000002810060648914100000010002000c800501010080020200051e00000204030000100000051e00000205040000000efc00100000051e0000020c02000000015f90") ∷ []
unfolding eth.decoded fc.decoded reading.decoded heard.carried heard.is_flogi capsule.written crc.crc crc.remainder fip.written els.written ct.decoded answer.written zones.joined server.query server.feature_word server.feature_words outs.notices outs.outputs_by
sent_at_entry5_on_port1 = refl

pub sent_at_entry5_on_port2 : map (λ s. s.bytes) (filter (λ s. s.port == 2) (outs.outputs_by C 2 (record { tables = state.tables_of C J5; advertised = outs.advertised_at C J5; rscns = 0 }) (state.tables_of C J6) entry5)) ≡ bytes (codes "01101801000100051e000002810060648914100000010002000c800501010080020200051e00000204030000100000051e00000205040000000efc00100000051e0000020c02000000015f90") ∷ []
unfolding eth.decoded fc.decoded reading.decoded heard.carried heard.is_flogi capsule.written crc.crc crc.remainder fip.written els.written ct.decoded answer.written zones.joined server.query server.feature_word server.feature_words outs.notices outs.outputs_by
sent_at_entry5_on_port2 = refl

pub sent_at_entry10_on_port1 : map (λ s. s.bytes) (filter (λ s. s.port == 1) (outs.outputs_by C 2 (record { tables = state.tables_of C J10; advertised = outs.advertised_at C J10; rscns = 0 }) (state.tables_of C J11) entry10)) ≡ bytes (codes "001b2100000a00051e000002810060648914100000030002000a0000020200051e00000204030000100000051e0000020b050efc00010100000101002000001b2100000a") ∷ []
unfolding eth.decoded fc.decoded reading.decoded heard.carried heard.is_flogi capsule.written crc.crc crc.remainder fip.written els.written ct.decoded answer.written zones.joined server.query server.feature_word server.feature_words outs.notices outs.outputs_by
sent_at_entry10_on_port1 = refl

pub sent_at_entry11_on_port1 : map (λ s. s.bytes) (filter (λ s. s.port == 1) (outs.outputs_by C 2 (record { tables = state.tables_of C J11; advertised = outs.advertised_at C J11; rscns = 0 }) (state.tables_of C J12) entry11 ++ outs.outputs_by C 2 (record { tables = state.tables_of C J12; advertised = outs.advertised_at C J12; rscns = 0 }) (state.tables_of C J13) entry12)) ≡ []
unfolding eth.decoded fc.decoded reading.decoded heard.carried heard.is_flogi capsule.written crc.crc crc.remainder fip.written els.written ct.decoded answer.written zones.joined server.query server.feature_word server.feature_words outs.notices outs.outputs_by
sent_at_entry11_on_port1 = refl

pub sent_at_entry11_on_port2 : map (λ s. s.bytes) (filter (λ s. s.port == 2) (outs.outputs_by C 2 (record { tables = state.tables_of C J11; advertised = outs.advertised_at C J11; rscns = 0 }) (state.tables_of C J12) entry11 ++ outs.outputs_by C 2 (record { tables = state.tables_of C J12; advertised = outs.advertised_at C J12; rscns = 0 }) (state.tables_of C J13) entry12)) ≡ (bytes (codes "001b2100000b00051e000002891410000004000200030000020200051e0000020e010064") ++ zeros 24) ∷ []
unfolding eth.decoded fc.decoded reading.decoded heard.carried heard.is_flogi capsule.written crc.crc crc.remainder fip.written els.written ct.decoded answer.written zones.joined server.query server.feature_word server.feature_words outs.notices outs.outputs_by
sent_at_entry11_on_port2 = refl

pub logins_at_the_end : map {B = List ℕ} (λ p. p.address ∷ p.name ∷ p.values.node_name ∷ p.enode.port ∷ p.node_heard ∷ p.port_heard ∷ unwrap_or p.server 0 ∷ p.watch ∷ []) (state.tables_of C J13).ports ≡ (0x010101 ∷ 0x2000001b2100000b ∷ 0x1000001b21000001 ∷ 1 ∷ 200000 ∷ 200100 ∷ 0 ∷ 0 ∷ []) ∷ []
unfolding eth.decoded fc.decoded reading.decoded heard.carried heard.is_flogi ct.decoded
logins_at_the_end = refl

pub type_maps : map {B = List ℕ} (λ p. p.values.types.0) (state.tables_of C J13).ports ≡ (0x00000000 ∷ 0x00000000 ∷ 0x00000000 ∷ 0x00000000 ∷ 0x00000000 ∷ 0x00000000 ∷ 0x00000000 ∷ 0x00000000 ∷ []) ∷ []
unfolding eth.decoded fc.decoded reading.decoded heard.carried heard.is_flogi ct.decoded
type_maps = refl

-- the same lines in format 1
pub lines1 : text.text1 J13 ≡ codes "tick 1000\n1 0 granted 010100\ntick 1100\n1 1 granted 010101\ntick 91000\ntick 181000\ntick 200000\n1 2 alive\ntick 200100\n1 3 alive 010101\ntick 226100 010100\ntick 230000\n2 0 vlans\n"
unfolding text.text1 fmt.digits
lines1 = refl

pub lines : text.text J13 ≡ codes "journal 2\n1000 tick\n1000 1 0 granted 010100\n1100 tick\n1100 1 1 granted 010101\n91000 tick\n181000 tick\n200000 tick\n200000 1 2 alive\n200100 tick\n200100 1 3 alive 010101\n226100 tick 010100\n230000 tick\n230000 2 0 vlans\n"
unfolding text.text fmt.digits
lines = refl
