-- ENodes of one port that fall silent at once, and a login that counts as being heard.
use Rattle.std.specs.Prelude.{◌≡◌, ℕ, ◌==◌, unwrap_or, true, false, List, [], ◌∷◌, ◌++◌, refl, map, filter, codes}
use Rattle.fab_base.specs.declared.values.Caught.{Caught}
use Rattle.fab_config.specs.Settings.{Settings}
use Rattle.fab_policy.specs.State as state
use Rattle.fab_policy.specs.Verdicts as verdicts
use Rattle.ct_messages.specs.Server as server
use Rattle.fab_policy.specs.Legal as legal
use Rattle.fab_policy.specs.Rules as rules
use Rattle.heard_frames.specs.Heard as heard
use Rattle.fab_policy.specs.Outputs as outs
use Rattle.fab_policy.specs.declared.event.Event.{Event}
use Rattle.fab_policy.specs.declared.event.Event.TheVariants.{Tick, Frame}
use Rattle.fab_policy.specs.declared.verdict.Verdict.TheVariants.{Vlans, Granted}
use Rattle.eth_frames.specs.Ethernet as eth
use Rattle.fc_check.specs.Crc as crc
use Rattle.fc_frames.specs.Frame as fc
use Rattle.fcoe_codec.specs.Fcoe as capsule
use Rattle.fip_codec.specs.Message as fip
use Rattle.fip_codec.specs.Reading as reading
use Rattle.els_messages.specs.Els as els
use Rattle.ct_messages.specs.Ct as ct
use Rattle.ct_messages.specs.Answer as answer
use Rattle.zone_rules.specs.Joined as zones
use Rattle.std.specs.Fmt as fmt
use Rattle.fab_policy.specs.Journal.{Journal}
use Rattle.fab_policy.specs.Text as text
use Rattle.fab_base.specs.Layout.{zeros}
use Rattle.examples.specs.Given.{bytes}

abbrev pub C : Settings
C = record { switch = 0x100000051e000002; fcf_mac = bytes (codes "00051e000002"); fc_map = 0xefc00; vlan = 100; domain = 1; pool = 4; priority = 128; period = 8000; window = 100; limit = 240; zones = []; sets = []; activations = [] }

abbrev pub J0 : Journal
J0 = []

-- 1000 tick
abbrev pub entry0 : Event
entry0 = Tick 1000 []

pub entry0_ends_these : state.addresses (state.overdue C (state.tables_of C J0) 1000) ≡ []
unfolding eth.decoded fc.decoded reading.decoded heard.carried heard.is_flogi
entry0_ends_these = refl

abbrev pub J1 : Journal
J1 = entry0 ∷ J0

abbrev pub frame1 : Caught
frame1 = record { bytes = (bytes (codes "00051e000002001b2100000b810000648914100000020001002680000724000022fffffe0000000001290000000000000001ffff00000000040000002020000080000840") ++ zeros 8 ++ bytes (codes "2000001b2100000b1000001b21000001") ++ zeros 32 ++ (128 ∷ []) ++ zeros 47 ++ bytes (codes "0202000000000000")); whole = true }

-- 1000 1 0 granted 010100
abbrev pub entry1 : Event
entry1 = Frame 1 0 frame1 (Granted 0x010100)

pub entry1_is_right : verdicts.IsRight C (state.tables_of C J1) 1 frame1 (Granted 0x010100)
unfolding eth.decoded fc.decoded reading.decoded heard.carried heard.is_flogi heard.decoded capsule.decoded crc.crc crc.remainder els.decoded ct.decoded zones.joined rules.rule_for verdicts.judged
entry1_is_right = refl

abbrev pub J2 : Journal
J2 = entry1 ∷ J1

abbrev pub frame2 : Caught
frame2 = record { bytes = (bytes (codes "00051e000002001b2100000a810000648914100000020001002680000724000022fffffe0000000001290000000000000001ffff00000000040000002020000080000840") ++ zeros 8 ++ bytes (codes "2000001b2100000a1000001b21000001") ++ zeros 32 ++ (128 ∷ []) ++ zeros 47 ++ bytes (codes "0202000000000000")); whole = true }

-- 1000 1 1 granted 010101
abbrev pub entry2 : Event
entry2 = Frame 1 1 frame2 (Granted 0x010101)

pub entry2_is_right : verdicts.IsRight C (state.tables_of C J2) 1 frame2 (Granted 0x010101)
unfolding eth.decoded fc.decoded reading.decoded heard.carried heard.is_flogi heard.decoded capsule.decoded crc.crc crc.remainder els.decoded ct.decoded zones.joined rules.rule_for verdicts.judged
entry2_is_right = refl

abbrev pub J3 : Journal
J3 = entry2 ∷ J2

abbrev pub frame3 : Caught
frame3 = record { bytes = (bytes (codes "00051e000002001b2100000a810000648914100000020001002680000824000022fffffe0000000001290000000000000001ffff00000000510000002020000080000840") ++ zeros 8 ++ bytes (codes "2000001b2100000c1000001b21000001") ++ zeros 32 ++ (128 ∷ []) ++ zeros 47 ++ bytes (codes "0202000000000000")); whole = true }

-- 1000 1 2 granted 010102
abbrev pub entry3 : Event
entry3 = Frame 1 2 frame3 (Granted 0x010102)

pub entry3_is_right : verdicts.IsRight C (state.tables_of C J3) 1 frame3 (Granted 0x010102)
unfolding eth.decoded fc.decoded reading.decoded heard.carried heard.is_flogi heard.decoded capsule.decoded crc.crc crc.remainder els.decoded ct.decoded zones.joined rules.rule_for verdicts.judged
entry3_is_right = refl

abbrev pub J4 : Journal
J4 = entry3 ∷ J3

abbrev pub frame4 : Caught
frame4 = record { bytes = (bytes (codes "00051e000002001b2100000c810000648914100000020001002680000724000022fffffe0000000001290000000000000001ffff00000000040000002020000080000840") ++ zeros 8 ++ bytes (codes "2000001b2100000d1000001b21000001") ++ zeros 32 ++ (128 ∷ []) ++ zeros 47 ++ bytes (codes "0202000000000000")); whole = true }

-- 1000 2 0 granted 010103
abbrev pub entry4 : Event
entry4 = Frame 2 0 frame4 (Granted 0x010103)

pub entry4_is_right : verdicts.IsRight C (state.tables_of C J4) 2 frame4 (Granted 0x010103)
unfolding eth.decoded fc.decoded reading.decoded heard.carried heard.is_flogi heard.decoded capsule.decoded crc.crc crc.remainder els.decoded ct.decoded zones.joined rules.rule_for verdicts.judged
entry4_is_right = refl

abbrev pub J5 : Journal
J5 = entry4 ∷ J4

-- 9000 tick
abbrev pub entry5 : Event
entry5 = Tick 9000 []

pub entry5_ends_these : state.addresses (state.overdue C (state.tables_of C J5) 9000) ≡ []
unfolding eth.decoded fc.decoded reading.decoded heard.carried heard.is_flogi
entry5_ends_these = refl

pub entry5_is_owed : legal.is_owed_after C J5 9000 ≡ true
unfolding eth.decoded fc.decoded reading.decoded heard.carried heard.is_flogi legal.is_tick_owed
entry5_is_owed = refl

pub entry5_is_owed_no_earlier : legal.is_owed_after C J5 8900 ≡ false
unfolding eth.decoded fc.decoded reading.decoded heard.carried heard.is_flogi legal.is_tick_owed
entry5_is_owed_no_earlier = refl

abbrev pub J6 : Journal
J6 = entry5 ∷ J5

-- 17000 tick
abbrev pub entry6 : Event
entry6 = Tick 17000 []

pub entry6_ends_these : state.addresses (state.overdue C (state.tables_of C J6) 17000) ≡ []
unfolding eth.decoded fc.decoded reading.decoded heard.carried heard.is_flogi
entry6_ends_these = refl

pub entry6_is_owed : legal.is_owed_after C J6 17000 ≡ true
unfolding eth.decoded fc.decoded reading.decoded heard.carried heard.is_flogi legal.is_tick_owed
entry6_is_owed = refl

pub entry6_is_owed_no_earlier : legal.is_owed_after C J6 16900 ≡ false
unfolding eth.decoded fc.decoded reading.decoded heard.carried heard.is_flogi legal.is_tick_owed
entry6_is_owed_no_earlier = refl

abbrev pub J7 : Journal
J7 = entry6 ∷ J6

-- 21100 tick 010100 010101 010102 010103
abbrev pub entry7 : Event
entry7 = Tick 21100 (0x10100 ∷ 0x10101 ∷ 0x10102 ∷ 0x10103 ∷ [])

pub entry7_ends_these : state.addresses (state.overdue C (state.tables_of C J7) 21100) ≡ 0x10100 ∷ 0x10101 ∷ 0x10102 ∷ 0x10103 ∷ []
unfolding eth.decoded fc.decoded reading.decoded heard.carried heard.is_flogi
entry7_ends_these = refl

pub entry7_is_owed : legal.is_owed_after C J7 21100 ≡ true
unfolding eth.decoded fc.decoded reading.decoded heard.carried heard.is_flogi legal.is_tick_owed
entry7_is_owed = refl

pub entry7_is_owed_no_earlier : legal.is_owed_after C J7 21000 ≡ false
unfolding eth.decoded fc.decoded reading.decoded heard.carried heard.is_flogi legal.is_tick_owed
entry7_is_owed_no_earlier = refl

abbrev pub J8 : Journal
J8 = entry7 ∷ J7

-- 21500 tick
abbrev pub entry8 : Event
entry8 = Tick 21500 []

pub entry8_ends_these : state.addresses (state.overdue C (state.tables_of C J8) 21500) ≡ []
unfolding eth.decoded fc.decoded reading.decoded heard.carried heard.is_flogi
entry8_ends_these = refl

pub entry8_is_owed_no_earlier : legal.is_owed_after C J8 21400 ≡ false
unfolding eth.decoded fc.decoded reading.decoded heard.carried heard.is_flogi legal.is_tick_owed
entry8_is_owed_no_earlier = refl

abbrev pub J9 : Journal
J9 = entry8 ∷ J8

abbrev pub frame9 : Caught
frame9 = record { bytes = bytes (codes "011018010002001b2100000d8914100000040001000200000202001b2100000d"); whole = true }

-- 21500 2 1 vlans
abbrev pub entry9 : Event
entry9 = Frame 2 1 frame9 Vlans

pub entry9_is_right : verdicts.IsRight C (state.tables_of C J9) 2 frame9 Vlans
unfolding eth.decoded fc.decoded reading.decoded heard.carried heard.is_flogi heard.decoded capsule.decoded crc.crc crc.remainder els.decoded ct.decoded zones.joined rules.rule_for verdicts.judged
entry9_is_right = refl

abbrev pub J10 : Journal
J10 = entry9 ∷ J9

pub sent_at_entry0_on_port1 : map (λ s. s.bytes) (filter (λ s. s.port == 1) (outs.outputs_by C 2 (record { tables = state.tables_of C J0; advertised = outs.advertised_at C J0; rscns = 0 }) (state.tables_of C J1) entry0 ++ outs.outputs_by C 2 (record { tables = state.tables_of C J1; advertised = outs.advertised_at C J1; rscns = 0 }) (state.tables_of C J2) entry1 ++ outs.outputs_by C 2 (record { tables = state.tables_of C J2; advertised = outs.advertised_at C J2; rscns = 0 }) (state.tables_of C J3) entry2 ++ outs.outputs_by C 2 (record { tables = state.tables_of C J3; advertised = outs.advertised_at C J3; rscns = 0 }) (state.tables_of C J4) entry3 ++ outs.outputs_by C 2 (record { tables = state.tables_of C J4; advertised = outs.advertised_at C J4; rscns = 0 }) (state.tables_of C J5) entry4)) ≡ (bytes (codes "001b2100000b00051e00000281006064891410000002000200268000072400002301010000fffffe01980000000000000001ffff0000000002000000202000003000084000002710000007d0200100051e000002100000051e000002") ++ zeros 32 ++ (136 ∷ []) ++ zeros 47 ++ bytes (codes "02020efc00010100")) ∷ (bytes (codes "001b2100000a00051e00000281006064891410000002000200268000072400002301010100fffffe01980000000000000001ffff0000000002000000202000003000084000002710000007d0200100051e000002100000051e000002") ++ zeros 32 ++ (136 ∷ []) ++ zeros 47 ++ bytes (codes "02020efc00010101")) ∷ (bytes (codes "001b2100000a00051e00000281006064891410000002000200268000082400002301010200fffffe01980000000000000001ffff0000000002000000202000003000084000002710000007d0200100051e000002100000051e000002") ++ zeros 32 ++ (136 ∷ []) ++ zeros 47 ++ bytes (codes "02020efc00010102")) ∷ []
unfolding eth.decoded fc.decoded reading.decoded heard.carried heard.is_flogi capsule.written crc.crc crc.remainder fip.written els.written ct.decoded answer.written zones.joined server.query server.feature_word server.feature_words outs.notices outs.outputs_by
sent_at_entry0_on_port1 = refl

pub sent_at_entry0_on_port2 : map (λ s. s.bytes) (filter (λ s. s.port == 2) (outs.outputs_by C 2 (record { tables = state.tables_of C J0; advertised = outs.advertised_at C J0; rscns = 0 }) (state.tables_of C J1) entry0 ++ outs.outputs_by C 2 (record { tables = state.tables_of C J1; advertised = outs.advertised_at C J1; rscns = 0 }) (state.tables_of C J2) entry1 ++ outs.outputs_by C 2 (record { tables = state.tables_of C J2; advertised = outs.advertised_at C J2; rscns = 0 }) (state.tables_of C J3) entry2 ++ outs.outputs_by C 2 (record { tables = state.tables_of C J3; advertised = outs.advertised_at C J3; rscns = 0 }) (state.tables_of C J4) entry3 ++ outs.outputs_by C 2 (record { tables = state.tables_of C J4; advertised = outs.advertised_at C J4; rscns = 0 }) (state.tables_of C J5) entry4)) ≡ (bytes (codes "001b2100000c00051e00000281006064891410000002000200268000072400002301010300fffffe01980000000000000001ffff0000000002000000202000003000084000002710000007d0200200051e000002100000051e000002") ++ zeros 32 ++ (136 ∷ []) ++ zeros 47 ++ bytes (codes "02020efc00010103")) ∷ []
unfolding eth.decoded fc.decoded reading.decoded heard.carried heard.is_flogi capsule.written crc.crc crc.remainder fip.written els.written ct.decoded answer.written zones.joined server.query server.feature_word server.feature_words outs.notices outs.outputs_by
sent_at_entry0_on_port2 = refl

pub sent_at_entry5_on_port1 : map (λ s. s.bytes) (filter (λ s. s.port == 1) (outs.outputs_by C 2 (record { tables = state.tables_of C J5; advertised = outs.advertised_at C J5; rscns = 0 }) (state.tables_of C J6) entry5)) ≡ bytes (codes "01101801000100051e000002810060648914100000010002000c800501010080020200051e00000204030000100000051e00000205040000000efc00100000051e0000020c02000000001f40") ∷ []
unfolding eth.decoded fc.decoded reading.decoded heard.carried heard.is_flogi capsule.written crc.crc crc.remainder fip.written els.written ct.decoded answer.written zones.joined server.query server.feature_word server.feature_words outs.notices outs.outputs_by
sent_at_entry5_on_port1 = refl

pub sent_at_entry5_on_port2 : map (λ s. s.bytes) (filter (λ s. s.port == 2) (outs.outputs_by C 2 (record { tables = state.tables_of C J5; advertised = outs.advertised_at C J5; rscns = 0 }) (state.tables_of C J6) entry5)) ≡ bytes (codes "01101801000100051e000002810060648914100000010002000c800501010080020200051e00000204030000100000051e00000205040000000efc00100000051e0000020c02000000001f40") ∷ []
unfolding eth.decoded fc.decoded reading.decoded heard.carried heard.is_flogi capsule.written crc.crc crc.remainder fip.written els.written ct.decoded answer.written zones.joined server.query server.feature_word server.feature_words outs.notices outs.outputs_by
sent_at_entry5_on_port2 = refl

pub sent_at_entry6_on_port1 : map (λ s. s.bytes) (filter (λ s. s.port == 1) (outs.outputs_by C 2 (record { tables = state.tables_of C J6; advertised = outs.advertised_at C J6; rscns = 0 }) (state.tables_of C J7) entry6)) ≡ bytes (codes "01101801000100051e000002810060648914100000010002000c800501010080020200051e00000204030000100000051e00000205040000000efc00100000051e0000020c02000000001f40") ∷ []
unfolding eth.decoded fc.decoded reading.decoded heard.carried heard.is_flogi capsule.written crc.crc crc.remainder fip.written els.written ct.decoded answer.written zones.joined server.query server.feature_word server.feature_words outs.notices outs.outputs_by
sent_at_entry6_on_port1 = refl

pub sent_at_entry6_on_port2 : map (λ s. s.bytes) (filter (λ s. s.port == 2) (outs.outputs_by C 2 (record { tables = state.tables_of C J6; advertised = outs.advertised_at C J6; rscns = 0 }) (state.tables_of C J7) entry6)) ≡ bytes (codes "01101801000100051e000002810060648914100000010002000c800501010080020200051e00000204030000100000051e00000205040000000efc00100000051e0000020c02000000001f40") ∷ []
unfolding eth.decoded fc.decoded reading.decoded heard.carried heard.is_flogi capsule.written crc.crc crc.remainder fip.written els.written ct.decoded answer.written zones.joined server.query server.feature_word server.feature_words outs.notices outs.outputs_by
sent_at_entry6_on_port2 = refl

pub sent_at_entry7_on_port1 : map (λ s. s.bytes) (filter (λ s. s.port == 1) (outs.outputs_by C 2 (record { tables = state.tables_of C J7; advertised = outs.advertised_at C J7; rscns = 0 }) (state.tables_of C J8) entry7)) ≡ bytes (codes "001b2100000a00051e000002810060648914100000030002000f0000020200051e00000204030000100000051e0000020b050efc00010101000101012000001b2100000a0b050efc00010102000101022000001b2100000c") ∷ bytes (codes "001b2100000b00051e000002810060648914100000030002000a0000020200051e00000204030000100000051e0000020b050efc00010100000101002000001b2100000b") ∷ []
unfolding eth.decoded fc.decoded reading.decoded heard.carried heard.is_flogi capsule.written crc.crc crc.remainder fip.written els.written ct.decoded answer.written zones.joined server.query server.feature_word server.feature_words outs.notices outs.outputs_by
sent_at_entry7_on_port1 = refl

pub sent_at_entry7_on_port2 : map (λ s. s.bytes) (filter (λ s. s.port == 2) (outs.outputs_by C 2 (record { tables = state.tables_of C J7; advertised = outs.advertised_at C J7; rscns = 0 }) (state.tables_of C J8) entry7)) ≡ bytes (codes "001b2100000c00051e000002810060648914100000030002000a0000020200051e00000204030000100000051e0000020b050efc00010103000101032000001b2100000d") ∷ []
unfolding eth.decoded fc.decoded reading.decoded heard.carried heard.is_flogi capsule.written crc.crc crc.remainder fip.written els.written ct.decoded answer.written zones.joined server.query server.feature_word server.feature_words outs.notices outs.outputs_by
sent_at_entry7_on_port2 = refl

pub sent_at_entry8_on_port1 : map (λ s. s.bytes) (filter (λ s. s.port == 1) (outs.outputs_by C 2 (record { tables = state.tables_of C J8; advertised = outs.advertised_at C J8; rscns = 0 }) (state.tables_of C J9) entry8 ++ outs.outputs_by C 2 (record { tables = state.tables_of C J9; advertised = outs.advertised_at C J9; rscns = 0 }) (state.tables_of C J10) entry9)) ≡ []
unfolding eth.decoded fc.decoded reading.decoded heard.carried heard.is_flogi capsule.written crc.crc crc.remainder fip.written els.written ct.decoded answer.written zones.joined server.query server.feature_word server.feature_words outs.notices outs.outputs_by
sent_at_entry8_on_port1 = refl

pub sent_at_entry8_on_port2 : map (λ s. s.bytes) (filter (λ s. s.port == 2) (outs.outputs_by C 2 (record { tables = state.tables_of C J8; advertised = outs.advertised_at C J8; rscns = 0 }) (state.tables_of C J9) entry8 ++ outs.outputs_by C 2 (record { tables = state.tables_of C J9; advertised = outs.advertised_at C J9; rscns = 0 }) (state.tables_of C J10) entry9)) ≡ (bytes (codes "001b2100000d00051e000002891410000004000200030000020200051e0000020e010064") ++ zeros 24) ∷ []
unfolding eth.decoded fc.decoded reading.decoded heard.carried heard.is_flogi capsule.written crc.crc crc.remainder fip.written els.written ct.decoded answer.written zones.joined server.query server.feature_word server.feature_words outs.notices outs.outputs_by
sent_at_entry8_on_port2 = refl

pub logins_at_the_end : map {B = List ℕ} (λ p. p.address ∷ p.name ∷ p.values.node_name ∷ p.enode.port ∷ p.node_heard ∷ p.port_heard ∷ unwrap_or p.server 0 ∷ p.watch ∷ []) (state.tables_of C J10).ports ≡ []
unfolding eth.decoded fc.decoded reading.decoded heard.carried heard.is_flogi ct.decoded
logins_at_the_end = refl

pub type_maps : map {B = List ℕ} (λ p. p.values.types.0) (state.tables_of C J10).ports ≡ []
unfolding eth.decoded fc.decoded reading.decoded heard.carried heard.is_flogi ct.decoded
type_maps = refl

pub lines : text.text J10 ≡ codes "journal 2\n1000 tick\n1000 1 0 granted 010100\n1000 1 1 granted 010101\n1000 1 2 granted 010102\n1000 2 0 granted 010103\n9000 tick\n17000 tick\n21100 tick 010100 010101 010102 010103\n21500 tick\n21500 2 1 vlans\n"
unfolding text.text fmt.digits
lines = refl
