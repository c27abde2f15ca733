-- A tick that ends a login while the zones change, and the advertisements behind it.
use Rattle.std.specs.Prelude.{◌≡◌, ℕ, ◌==◌, unwrap_or, true, false, List, [], ◌∷◌, ◌++◌, refl, map, filter, codes}
use Rattle.fab_base.specs.declared.values.Caught.{Caught}
use Rattle.fab_config.specs.Settings.{Settings}
use Rattle.fab_policy.specs.State as state
use Rattle.fab_policy.specs.Verdicts as verdicts
use Rattle.ct_messages.specs.Server as server
use Rattle.fab_policy.specs.Legal as legal
use Rattle.fab_policy.specs.Rules as rules
use Rattle.heard_frames.specs.Heard as heard
use Rattle.fab_policy.specs.Outputs as outs
use Rattle.fab_policy.specs.declared.event.Event.{Event}
use Rattle.fab_policy.specs.declared.event.Event.TheVariants.{Tick, Frame}
use Rattle.fab_policy.specs.declared.verdict.Verdict.TheVariants.{Vlans, Granted, AliveNode, Watching}
use Rattle.eth_frames.specs.Ethernet as eth
use Rattle.fc_check.specs.Crc as crc
use Rattle.fc_frames.specs.Frame as fc
use Rattle.fcoe_codec.specs.Fcoe as capsule
use Rattle.fip_codec.specs.Message as fip
use Rattle.fip_codec.specs.Reading as reading
use Rattle.els_messages.specs.Els as els
use Rattle.ct_messages.specs.Ct as ct
use Rattle.ct_messages.specs.Answer as answer
use Rattle.zone_rules.specs.Joined as zones
use Rattle.std.specs.Fmt as fmt
use Rattle.fab_policy.specs.Journal.{Journal}
use Rattle.fab_policy.specs.Text as text
use Rattle.fab_base.specs.Layout.{zeros}
use Rattle.examples.specs.Given.{bytes}

abbrev pub C : Settings
C = record { switch = 0x100000051e000002; fcf_mac = bytes (codes "00051e000002"); fc_map = 0xefc00; vlan = 100; domain = 1; pool = 3; priority = 128; period = 2000; window = 100; limit = 240; zones = record { name = codes "z"; members = 0x2000001b2100000a ∷ 0x2000001b2100000b ∷ [] } ∷ record { name = codes "y"; members = 0x2000001b2100000c ∷ 0x2000001b2100000b ∷ [] } ∷ []; sets = record { name = codes "s"; places = 0 ∷ [] } ∷ record { name = codes "r"; places = 1 ∷ [] } ∷ []; activations = record { set = 0; moment = 0 } ∷ record { set = 1; moment = 7000 } ∷ record { set = 0; moment = 7900 } ∷ [] }

abbrev pub J0 : Journal
J0 = []

-- 1900 tick
abbrev pub entry0 : Event
entry0 = Tick 1900 []

pub entry0_ends_these : state.addresses (state.overdue C (state.tables_of C J0) 1900) ≡ []
unfolding eth.decoded fc.decoded reading.decoded heard.carried heard.is_flogi
entry0_ends_these = refl

abbrev pub J1 : Journal
J1 = entry0 ∷ J0

abbrev pub frame1 : Caught
frame1 = record { bytes = (bytes (codes "00051e000002001b2100000a810000648914100000020001002680000724000022fffffe0000000001290000000000000001ffff00000000040000002020000080000840") ++ zeros 8 ++ bytes (codes "2000001b2100000a1000001b21000001") ++ zeros 32 ++ (128 ∷ []) ++ zeros 47 ++ bytes (codes "0202000000000000")); whole = true }

-- 1900 1 0 granted 010100
abbrev pub entry1 : Event
entry1 = Frame 1 0 frame1 (Granted 0x010100)

pub entry1_is_right : verdicts.IsRight C (state.tables_of C J1) 1 frame1 (Granted 0x010100)
unfolding eth.decoded fc.decoded reading.decoded heard.carried heard.is_flogi heard.decoded capsule.decoded crc.crc crc.remainder els.decoded ct.decoded zones.joined rules.rule_for verdicts.judged
entry1_is_right = refl

abbrev pub J2 : Journal
J2 = entry1 ∷ J1

-- 2000 tick
abbrev pub entry2 : Event
entry2 = Tick 2000 []

pub entry2_ends_these : state.addresses (state.overdue C (state.tables_of C J2) 2000) ≡ []
unfolding eth.decoded fc.decoded reading.decoded heard.carried heard.is_flogi
entry2_ends_these = refl

abbrev pub J3 : Journal
J3 = entry2 ∷ J2

abbrev pub frame3 : Caught
frame3 = record { bytes = (bytes (codes "00051e000002001b2100000b810000648914100000020001002680000724000022fffffe0000000001290000000000000001ffff00000000040000002020000080000840") ++ zeros 8 ++ bytes (codes "2000001b2100000b1000001b21000001") ++ zeros 32 ++ (128 ∷ []) ++ zeros 47 ++ bytes (codes "0202000000000000")); whole = true }

-- 2000 2 0 granted 010101
abbrev pub entry3 : Event
entry3 = Frame 2 0 frame3 (Granted 0x010101)

pub entry3_is_right : verdicts.IsRight C (state.tables_of C J3) 2 frame3 (Granted 0x010101)
unfolding eth.decoded fc.decoded reading.decoded heard.carried heard.is_flogi heard.decoded capsule.decoded crc.crc crc.remainder els.decoded ct.decoded zones.joined rules.rule_for verdicts.judged
entry3_is_right = refl

abbrev pub J4 : Journal
J4 = entry3 ∷ J3

abbrev pub frame4 : Caught
frame4 = record { bytes = (bytes (codes "00051e0000020efc00010101810000648906") ++ zeros 13 ++ bytes (codes "2e22fffffd0001010101290000000000000009ffff00000000620000000000000317ac809342000000")); whole = true }

-- 2000 2 1 watching 3
abbrev pub entry4 : Event
entry4 = Frame 2 1 frame4 (Watching 3)

pub entry4_is_right : verdicts.IsRight C (state.tables_of C J4) 2 frame4 (Watching 3)
unfolding eth.decoded fc.decoded reading.decoded heard.carried heard.is_flogi heard.decoded capsule.decoded crc.crc crc.remainder els.decoded ct.decoded zones.joined rules.rule_for verdicts.judged
entry4_is_right = refl

abbrev pub J5 : Journal
J5 = entry4 ∷ J4

abbrev pub frame5 : Caught
frame5 = record { bytes = (bytes (codes "00051e000002001b2100000c810000648914100000020001002680000724000022fffffe0000000001290000000000000001ffff00000000040000002020000080000840") ++ zeros 8 ++ bytes (codes "2000001b2100000c1000001b21000001") ++ zeros 32 ++ (128 ∷ []) ++ zeros 47 ++ bytes (codes "0202000000000000")); whole = true }

-- 2000 3 0 granted 010102
abbrev pub entry5 : Event
entry5 = Frame 3 0 frame5 (Granted 0x010102)

pub entry5_is_right : verdicts.IsRight C (state.tables_of C J5) 3 frame5 (Granted 0x010102)
unfolding eth.decoded fc.decoded reading.decoded heard.carried heard.is_flogi heard.decoded capsule.decoded crc.crc crc.remainder els.decoded ct.decoded zones.joined rules.rule_for verdicts.judged
entry5_is_right = refl

abbrev pub J6 : Journal
J6 = entry5 ∷ J5

-- 3900 tick
abbrev pub entry6 : Event
entry6 = Tick 3900 []

pub entry6_ends_these : state.addresses (state.overdue C (state.tables_of C J6) 3900) ≡ []
unfolding eth.decoded fc.decoded reading.decoded heard.carried heard.is_flogi
entry6_ends_these = refl

pub entry6_is_owed : legal.is_owed_after C J6 3900 ≡ true
unfolding eth.decoded fc.decoded reading.decoded heard.carried heard.is_flogi legal.is_tick_owed
entry6_is_owed = refl

pub entry6_is_owed_no_earlier : legal.is_owed_after C J6 3800 ≡ false
unfolding eth.decoded fc.decoded reading.decoded heard.carried heard.is_flogi legal.is_tick_owed
entry6_is_owed_no_earlier = refl

abbrev pub J7 : Journal
J7 = entry6 ∷ J6

-- 5900 tick
abbrev pub entry7 : Event
entry7 = Tick 5900 []

pub entry7_ends_these : state.addresses (state.overdue C (state.tables_of C J7) 5900) ≡ []
unfolding eth.decoded fc.decoded reading.decoded heard.carried heard.is_flogi
entry7_ends_these = refl

pub entry7_is_owed : legal.is_owed_after C J7 5900 ≡ true
unfolding eth.decoded fc.decoded reading.decoded heard.carried heard.is_flogi legal.is_tick_owed
entry7_is_owed = refl

pub entry7_is_owed_no_earlier : legal.is_owed_after C J7 5800 ≡ false
unfolding eth.decoded fc.decoded reading.decoded heard.carried heard.is_flogi legal.is_tick_owed
entry7_is_owed_no_earlier = refl

abbrev pub J8 : Journal
J8 = entry7 ∷ J7

-- 6900 tick
abbrev pub entry8 : Event
entry8 = Tick 6900 []

pub entry8_ends_these : state.addresses (state.overdue C (state.tables_of C J8) 6900) ≡ []
unfolding eth.decoded fc.decoded reading.decoded heard.carried heard.is_flogi
entry8_ends_these = refl

pub entry8_is_owed_no_earlier : legal.is_owed_after C J8 6800 ≡ false
unfolding eth.decoded fc.decoded reading.decoded heard.carried heard.is_flogi legal.is_tick_owed
entry8_is_owed_no_earlier = refl

abbrev pub J9 : Journal
J9 = entry8 ∷ J8

abbrev pub frame9 : Caught
frame9 = record { bytes = bytes (codes "00051e000002001b2100000b810000648914100000030001000200000202001b2100000b"); whole = true }

-- 6900 2 2 alive
abbrev pub entry9 : Event
entry9 = Frame 2 2 frame9 AliveNode

pub entry9_is_right : verdicts.IsRight C (state.tables_of C J9) 2 frame9 AliveNode
unfolding eth.decoded fc.decoded reading.decoded heard.carried heard.is_flogi heard.decoded capsule.decoded crc.crc crc.remainder els.decoded ct.decoded zones.joined rules.rule_for verdicts.judged
entry9_is_right = refl

abbrev pub J10 : Journal
J10 = entry9 ∷ J9

abbrev pub frame10 : Caught
frame10 = record { bytes = bytes (codes "00051e000002001b2100000c810000648914100000030001000200000202001b2100000c"); whole = true }

-- 6900 3 1 alive
abbrev pub entry10 : Event
entry10 = Frame 3 1 frame10 AliveNode

pub entry10_is_right : verdicts.IsRight C (state.tables_of C J10) 3 frame10 AliveNode
unfolding eth.decoded fc.decoded reading.decoded heard.carried heard.is_flogi heard.decoded capsule.decoded crc.crc crc.remainder els.decoded ct.decoded zones.joined rules.rule_for verdicts.judged
entry10_is_right = refl

abbrev pub J11 : Journal
J11 = entry10 ∷ J10

-- 7000 tick 010100
abbrev pub entry11 : Event
entry11 = Tick 7000 (0x10100 ∷ [])

pub entry11_ends_these : state.addresses (state.overdue C (state.tables_of C J11) 7000) ≡ 0x10100 ∷ []
unfolding eth.decoded fc.decoded reading.decoded heard.carried heard.is_flogi
entry11_ends_these = refl

pub entry11_is_owed : legal.is_owed_after C J11 7000 ≡ true
unfolding eth.decoded fc.decoded reading.decoded heard.carried heard.is_flogi legal.is_tick_owed
entry11_is_owed = refl

abbrev pub J12 : Journal
J12 = entry11 ∷ J11

-- 7900 tick
abbrev pub entry12 : Event
entry12 = Tick 7900 []

pub entry12_ends_these : state.addresses (state.overdue C (state.tables_of C J12) 7900) ≡ []
unfolding eth.decoded fc.decoded reading.decoded heard.carried heard.is_flogi
entry12_ends_these = refl

pub entry12_is_owed : legal.is_owed_after C J12 7900 ≡ true
unfolding eth.decoded fc.decoded reading.decoded heard.carried heard.is_flogi legal.is_tick_owed
entry12_is_owed = refl

pub entry12_is_owed_no_earlier : legal.is_owed_after C J12 7800 ≡ false
unfolding eth.decoded fc.decoded reading.decoded heard.carried heard.is_flogi legal.is_tick_owed
entry12_is_owed_no_earlier = refl

abbrev pub J13 : Journal
J13 = entry12 ∷ J12

-- 8000 tick
abbrev pub entry13 : Event
entry13 = Tick 8000 []

pub entry13_ends_these : state.addresses (state.overdue C (state.tables_of C J13) 8000) ≡ []
unfolding eth.decoded fc.decoded reading.decoded heard.carried heard.is_flogi
entry13_ends_these = refl

abbrev pub J14 : Journal
J14 = entry13 ∷ J13

abbrev pub frame14 : Caught
frame14 = record { bytes = bytes (codes "011018010002001b2100000d8914100000040001000200000202001b2100000d"); whole = true }

-- 8000 1 1 vlans
abbrev pub entry14 : Event
entry14 = Frame 1 1 frame14 Vlans

pub entry14_is_right : verdicts.IsRight C (state.tables_of C J14) 1 frame14 Vlans
unfolding eth.decoded fc.decoded reading.decoded heard.carried heard.is_flogi heard.decoded capsule.decoded crc.crc crc.remainder els.decoded ct.decoded zones.joined rules.rule_for verdicts.judged
entry14_is_right = refl

abbrev pub J15 : Journal
J15 = entry14 ∷ J14

pub sent_at_entry0_on_port1 : map (λ s. s.bytes) (filter (λ s. s.port == 1) (outs.outputs_by C 3 (record { tables = state.tables_of C J0; advertised = outs.advertised_at C J0; rscns = 0 }) (state.tables_of C J1) entry0 ++ outs.outputs_by C 3 (record { tables = state.tables_of C J1; advertised = outs.advertised_at C J1; rscns = 0 }) (state.tables_of C J2) entry1)) ≡ (bytes (codes "001b2100000a00051e00000281006064891410000002000200268000072400002301010000fffffe01980000000000000001ffff0000000002000000202000003000084000002710000007d0200100051e000002100000051e000002") ++ zeros 32 ++ (136 ∷ []) ++ zeros 47 ++ bytes (codes "02020efc00010100")) ∷ []
unfolding eth.decoded fc.decoded reading.decoded heard.carried heard.is_flogi capsule.written crc.crc crc.remainder fip.written els.written ct.decoded answer.written zones.joined server.query server.feature_word server.feature_words outs.notices outs.outputs_by
sent_at_entry0_on_port1 = refl

pub sent_at_entry2_on_port1 : map (λ s. s.bytes) (filter (λ s. s.port == 1) (outs.outputs_by C 3 (record { tables = state.tables_of C J2; advertised = outs.advertised_at C J2; rscns = 0 }) (state.tables_of C J3) entry2 ++ outs.outputs_by C 3 (record { tables = state.tables_of C J3; advertised = outs.advertised_at C J3; rscns = 0 }) (state.tables_of C J4) entry3 ++ outs.outputs_by C 3 (record { tables = state.tables_of C J4; advertised = outs.advertised_at C J4; rscns = 0 }) (state.tables_of C J5) entry4 ++ outs.outputs_by C 3 (record { tables = state.tables_of C J5; advertised = outs.advertised_at C J5; rscns = 0 }) (state.tables_of C J6) entry5)) ≡ []
unfolding eth.decoded fc.decoded reading.decoded heard.carried heard.is_flogi capsule.written crc.crc crc.remainder fip.written els.written ct.decoded answer.written zones.joined server.query server.feature_word server.feature_words outs.notices outs.outputs_by
sent_at_entry2_on_port1 = refl

pub sent_at_entry2_on_port2 : map (λ s. s.bytes) (filter (λ s. s.port == 2) (outs.outputs_by C 3 (record { tables = state.tables_of C J2; advertised = outs.advertised_at C J2; rscns = 0 }) (state.tables_of C J3) entry2 ++ outs.outputs_by C 3 (record { tables = state.tables_of C J3; advertised = outs.advertised_at C J3; rscns = 0 }) (state.tables_of C J4) entry3 ++ outs.outputs_by C 3 (record { tables = state.tables_of C J4; advertised = outs.advertised_at C J4; rscns = 0 }) (state.tables_of C J5) entry4 ++ outs.outputs_by C 3 (record { tables = state.tables_of C J5; advertised = outs.advertised_at C J5; rscns = 0 }) (state.tables_of C J6) entry5)) ≡ (bytes (codes "001b2100000b00051e00000281006064891410000002000200268000072400002301010100fffffe01980000000000000001ffff0000000002000000202000003000084000002710000007d0200200051e000002100000051e000002") ++ zeros 32 ++ (136 ∷ []) ++ zeros 47 ++ bytes (codes "02020efc00010101")) ∷ (bytes (codes "0efc0001010100051e000002810060648906") ++ zeros 13 ++ bytes (codes "2e2301010100fffffd01980000000000000009ffff00000000020000008da7e5b542000000")) ∷ []
unfolding eth.decoded fc.decoded reading.decoded heard.carried heard.is_flogi capsule.written crc.crc crc.remainder fip.written els.written ct.decoded answer.written zones.joined server.query server.feature_word server.feature_words outs.notices outs.outputs_by
sent_at_entry2_on_port2 = refl

pub sent_at_entry2_on_port3 : map (λ s. s.bytes) (filter (λ s. s.port == 3) (outs.outputs_by C 3 (record { tables = state.tables_of C J2; advertised = outs.advertised_at C J2; rscns = 0 }) (state.tables_of C J3) entry2 ++ outs.outputs_by C 3 (record { tables = state.tables_of C J3; advertised = outs.advertised_at C J3; rscns = 0 }) (state.tables_of C J4) entry3 ++ outs.outputs_by C 3 (record { tables = state.tables_of C J4; advertised = outs.advertised_at C J4; rscns = 0 }) (state.tables_of C J5) entry4 ++ outs.outputs_by C 3 (record { tables = state.tables_of C J5; advertised = outs.advertised_at C J5; rscns = 0 }) (state.tables_of C J6) entry5)) ≡ (bytes (codes "001b2100000c00051e00000281006064891410000002000200268000072400002301010200fffffe01980000000000000001ffff0000000002000000202000003000084000002710000007d0200300051e000002100000051e000002") ++ zeros 32 ++ (136 ∷ []) ++ zeros 47 ++ bytes (codes "02020efc00010102")) ∷ []
unfolding eth.decoded fc.decoded reading.decoded heard.carried heard.is_flogi capsule.written crc.crc crc.remainder fip.written els.written ct.decoded answer.written zones.joined server.query server.feature_word server.feature_words outs.notices outs.outputs_by
sent_at_entry2_on_port3 = refl

pub sent_at_entry6_on_port1 : map (λ s. s.bytes) (filter (λ s. s.port == 1) (outs.outputs_by C 3 (record { tables = state.tables_of C J6; advertised = outs.advertised_at C J6; rscns = 0 }) (state.tables_of C J7) entry6)) ≡ bytes (codes "01101801000100051e000002810060648914100000010002000c800501010080020200051e00000204030000100000051e00000205040000000efc00100000051e0000020c020000000007d0") ∷ []
unfolding eth.decoded fc.decoded reading.decoded heard.carried heard.is_flogi capsule.written crc.crc crc.remainder fip.written els.written ct.decoded answer.written zones.joined server.query server.feature_word server.feature_words outs.notices outs.outputs_by
sent_at_entry6_on_port1 = refl

pub sent_at_entry6_on_port2 : map (λ s. s.bytes) (filter (λ s. s.port == 2) (outs.outputs_by C 3 (record { tables = state.tables_of C J6; advertised = outs.advertised_at C J6; rscns = 0 }) (state.tables_of C J7) entry6)) ≡ bytes (codes "01101801000100051e000002810060648914100000010002000c800501010080020200051e00000204030000100000051e00000205040000000efc00100000051e0000020c020000000007d0") ∷ []
unfolding eth.decoded fc.decoded reading.decoded heard.carried heard.is_flogi capsule.written crc.crc crc.remainder fip.written els.written ct.decoded answer.written zones.joined server.query server.feature_word server.feature_words outs.notices outs.outputs_by
sent_at_entry6_on_port2 = refl

pub sent_at_entry6_on_port3 : map (λ s. s.bytes) (filter (λ s. s.port == 3) (outs.outputs_by C 3 (record { tables = state.tables_of C J6; advertised = outs.advertised_at C J6; rscns = 0 }) (state.tables_of C J7) entry6)) ≡ bytes (codes "01101801000100051e000002810060648914100000010002000c800501010080020200051e00000204030000100000051e00000205040000000efc00100000051e0000020c020000000007d0") ∷ []
unfolding eth.decoded fc.decoded reading.decoded heard.carried heard.is_flogi capsule.written crc.crc crc.remainder fip.written els.written ct.decoded answer.written zones.joined server.query server.feature_word server.feature_words outs.notices outs.outputs_by
sent_at_entry6_on_port3 = refl

pub sent_at_entry7_on_port1 : map (λ s. s.bytes) (filter (λ s. s.port == 1) (outs.outputs_by C 3 (record { tables = state.tables_of C J7; advertised = outs.advertised_at C J7; rscns = 0 }) (state.tables_of C J8) entry7)) ≡ bytes (codes "01101801000100051e000002810060648914100000010002000c800501010080020200051e00000204030000100000051e00000205040000000efc00100000051e0000020c020000000007d0") ∷ []
unfolding eth.decoded fc.decoded reading.decoded heard.carried heard.is_flogi capsule.written crc.crc crc.remainder fip.written els.written ct.decoded answer.written zones.joined server.query server.feature_word server.feature_words outs.notices outs.outputs_by
sent_at_entry7_on_port1 = refl

pub sent_at_entry7_on_port2 : map (λ s. s.bytes) (filter (λ s. s.port == 2) (outs.outputs_by C 3 (record { tables = state.tables_of C J7; advertised = outs.advertised_at C J7; rscns = 0 }) (state.tables_of C J8) entry7)) ≡ bytes (codes "01101801000100051e000002810060648914100000010002000c800501010080020200051e00000204030000100000051e00000205040000000efc00100000051e0000020c020000000007d0") ∷ []
unfolding eth.decoded fc.decoded reading.decoded heard.carried heard.is_flogi capsule.written crc.crc crc.remainder fip.written els.written ct.decoded answer.written zones.joined server.query server.feature_word server.feature_words outs.notices outs.outputs_by
sent_at_entry7_on_port2 = refl

pub sent_at_entry7_on_port3 : map (λ s. s.bytes) (filter (λ s. s.port == 3) (outs.outputs_by C 3 (record { tables = state.tables_of C J7; advertised = outs.advertised_at C J7; rscns = 0 }) (state.tables_of C J8) entry7)) ≡ bytes (codes "01101801000100051e000002810060648914100000010002000c800501010080020200051e00000204030000100000051e00000205040000000efc00100000051e0000020c020000000007d0") ∷ []
unfolding eth.decoded fc.decoded reading.decoded heard.carried heard.is_flogi capsule.written crc.crc crc.remainder fip.written els.written ct.decoded answer.written zones.joined server.query server.feature_word server.feature_words outs.notices outs.outputs_by
sent_at_entry7_on_port3 = refl

pub sent_at_entry11_on_port1 : map (λ s. s.bytes) (filter (λ s. s.port == 1) (outs.outputs_by C 3 (record { tables = state.tables_of C J11; advertised = outs.advertised_at C J11; rscns = 0 }) (state.tables_of C J12) entry11)) ≡ bytes (codes "001b2100000a00051e000002810060648914100000030002000a0000020200051e00000204030000100000051e0000020b050efc00010100000101002000001b2100000a") ∷ []
unfolding eth.decoded fc.decoded reading.decoded heard.carried heard.is_flogi capsule.written crc.crc crc.remainder fip.written els.written ct.decoded answer.written zones.joined server.query server.feature_word server.feature_words outs.notices outs.outputs_by
sent_at_entry11_on_port1 = refl

pub sent_at_entry11_on_port2 : map (λ s. s.bytes) (filter (λ s. s.port == 2) (outs.outputs_by C 3 (record { tables = state.tables_of C J11; advertised = outs.advertised_at C J11; rscns = 0 }) (state.tables_of C J12) entry11)) ≡ (bytes (codes "0efc0001010100051e000002810060648906") ++ zeros 13 ++ bytes (codes "2e2201010100fffffd0129") ++ zeros 8 ++ bytes (codes "ffff000000006104000800010100ec6918ec42000000")) ∷ (bytes (codes "0efc0001010100051e000002810060648906") ++ zeros 13 ++ bytes (codes "2e2201010100fffffd01290000000000000001ffff00000000610400080001010228d3edbb42000000")) ∷ []
unfolding eth.decoded fc.decoded reading.decoded heard.carried heard.is_flogi capsule.written crc.crc crc.remainder fip.written els.written ct.decoded answer.written zones.joined server.query server.feature_word server.feature_words outs.notices outs.outputs_by
sent_at_entry11_on_port2 = refl

pub sent_at_entry12_on_port1 : map (λ s. s.bytes) (filter (λ s. s.port == 1) (outs.outputs_by C 3 (record { tables = state.tables_of C J12; advertised = outs.advertised_at C J12; rscns = 2 }) (state.tables_of C J13) entry12)) ≡ bytes (codes "01101801000100051e000002810060648914100000010002000c800501010080020200051e00000204030000100000051e00000205040000000efc00100000051e0000020c020000000007d0") ∷ []
unfolding eth.decoded fc.decoded reading.decoded heard.carried heard.is_flogi capsule.written crc.crc crc.remainder fip.written els.written ct.decoded answer.written zones.joined server.query server.feature_word server.feature_words outs.notices outs.outputs_by
sent_at_entry12_on_port1 = refl

pub sent_at_entry12_on_port2 : map (λ s. s.bytes) (filter (λ s. s.port == 2) (outs.outputs_by C 3 (record { tables = state.tables_of C J12; advertised = outs.advertised_at C J12; rscns = 2 }) (state.tables_of C J13) entry12)) ≡ (bytes (codes "0efc0001010100051e000002810060648906") ++ zeros 13 ++ bytes (codes "2e2201010100fffffd01290000000000000002ffff00000000610400080001010251b990aa42000000")) ∷ bytes (codes "01101801000100051e000002810060648914100000010002000c800501010080020200051e00000204030000100000051e00000205040000000efc00100000051e0000020c020000000007d0") ∷ []
unfolding eth.decoded fc.decoded reading.decoded heard.carried heard.is_flogi capsule.written crc.crc crc.remainder fip.written els.written ct.decoded answer.written zones.joined server.query server.feature_word server.feature_words outs.notices outs.outputs_by
sent_at_entry12_on_port2 = refl

pub sent_at_entry12_on_port3 : map (λ s. s.bytes) (filter (λ s. s.port == 3) (outs.outputs_by C 3 (record { tables = state.tables_of C J12; advertised = outs.advertised_at C J12; rscns = 2 }) (state.tables_of C J13) entry12)) ≡ bytes (codes "01101801000100051e000002810060648914100000010002000c800501010080020200051e00000204030000100000051e00000205040000000efc00100000051e0000020c020000000007d0") ∷ []
unfolding eth.decoded fc.decoded reading.decoded heard.carried heard.is_flogi capsule.written crc.crc crc.remainder fip.written els.written ct.decoded answer.written zones.joined server.query server.feature_word server.feature_words outs.notices outs.outputs_by
sent_at_entry12_on_port3 = refl

pub sent_at_entry13_on_port1 : map (λ s. s.bytes) (filter (λ s. s.port == 1) (outs.outputs_by C 3 (record { tables = state.tables_of C J13; advertised = outs.advertised_at C J13; rscns = 3 }) (state.tables_of C J14) entry13 ++ outs.outputs_by C 3 (record { tables = state.tables_of C J14; advertised = outs.advertised_at C J14; rscns = 3 }) (state.tables_of C J15) entry14)) ≡ (bytes (codes "001b2100000d00051e000002891410000004000200030000020200051e0000020e010064") ++ zeros 24) ∷ []
unfolding eth.decoded fc.decoded reading.decoded heard.carried heard.is_flogi capsule.written crc.crc crc.remainder fip.written els.written ct.decoded answer.written zones.joined server.query server.feature_word server.feature_words outs.notices outs.outputs_by
sent_at_entry13_on_port1 = refl

pub logins_at_the_end : map {B = List ℕ} (λ p. p.address ∷ p.name ∷ p.values.node_name ∷ p.enode.port ∷ p.node_heard ∷ p.port_heard ∷ unwrap_or p.server 0 ∷ p.watch ∷ []) (state.tables_of C J15).ports ≡ (0x010101 ∷ 0x2000001b2100000b ∷ 0x1000001b21000001 ∷ 2 ∷ 6900 ∷ 2000 ∷ 0 ∷ 3 ∷ []) ∷ (0x010102 ∷ 0x2000001b2100000c ∷ 0x1000001b21000001 ∷ 3 ∷ 6900 ∷ 2000 ∷ 0 ∷ 0 ∷ []) ∷ []
unfolding eth.decoded fc.decoded reading.decoded heard.carried heard.is_flogi ct.decoded
logins_at_the_end = refl

pub type_maps : map {B = List ℕ} (λ p. p.values.types.0) (state.tables_of C J15).ports ≡ (0x00000000 ∷ 0x00000000 ∷ 0x00000000 ∷ 0x00000000 ∷ 0x00000000 ∷ 0x00000000 ∷ 0x00000000 ∷ 0x00000000 ∷ []) ∷ (0x00000000 ∷ 0x00000000 ∷ 0x00000000 ∷ 0x00000000 ∷ 0x00000000 ∷ 0x00000000 ∷ 0x00000000 ∷ 0x00000000 ∷ []) ∷ []
unfolding eth.decoded fc.decoded reading.decoded heard.carried heard.is_flogi ct.decoded
type_maps = refl

pub lines : text.text J15 ≡ codes "journal 2\n1900 tick\n1900 1 0 granted 010100\n2000 tick\n2000 2 0 granted 010101\n2000 2 1 watching 3\n2000 3 0 granted 010102\n3900 tick\n5900 tick\n6900 tick\n6900 2 2 alive\n6900 3 1 alive\n7000 tick 010100\n7900 tick\n8000 tick\n8000 1 1 vlans\n"
unfolding text.text fmt.digits
lines = refl
