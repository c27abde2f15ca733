-- Requests to the name server that are refused.
use Rattle.std.specs.Prelude.{◌≡◌, ℕ, ◌==◌, unwrap_or, true, List, [], ◌∷◌, ◌++◌, refl, map, filter, codes}
use Rattle.fab_base.specs.declared.values.Caught.{Caught}
use Rattle.fab_config.specs.Settings.{Settings}
use Rattle.fab_policy.specs.State as state
use Rattle.fab_policy.specs.Verdicts as verdicts
use Rattle.ct_messages.specs.Server as server
use Rattle.fab_policy.specs.Rules as rules
use Rattle.heard_frames.specs.Heard as heard
use Rattle.fab_policy.specs.Outputs as outs
use Rattle.fab_policy.specs.declared.event.Event.{Event}
use Rattle.fab_policy.specs.declared.event.Event.TheVariants.{Tick, Frame}
use Rattle.fab_policy.specs.declared.verdict.Verdict.TheVariants.{Granted, NsLogin, NsLogout, Refused}
use Rattle.eth_frames.specs.Ethernet as eth
use Rattle.fc_check.specs.Crc as crc
use Rattle.fc_frames.specs.Frame as fc
use Rattle.fcoe_codec.specs.Fcoe as capsule
use Rattle.fip_codec.specs.Message as fip
use Rattle.fip_codec.specs.Reading as reading
use Rattle.els_messages.specs.Els as els
use Rattle.ct_messages.specs.Ct as ct
use Rattle.ct_messages.specs.Answer as answer
use Rattle.zone_rules.specs.Joined as zones
use Rattle.std.specs.Fmt as fmt
use Rattle.fab_policy.specs.Journal.{Journal}
use Rattle.fab_policy.specs.Text as text
use Rattle.fab_base.specs.Layout.{zeros}
use Rattle.examples.specs.Given.{bytes}

abbrev pub C : Settings
C = record { switch = 0x100000051e000002; fcf_mac = bytes (codes "00051e000002"); fc_map = 0xefc00; vlan = 100; domain = 1; pool = 3; priority = 128; period = 8000; window = 100; limit = 240; zones = record { name = codes "z"; members = 0x2000001b2100000a ∷ 0x2000001b2100000b ∷ 0x2000001b2100000c ∷ [] } ∷ record { name = codes "y"; members = 0x2000001b2100000b ∷ 0x2000001b2100000d ∷ [] } ∷ []; sets = []; activations = [] }

abbrev pub J0 : Journal
J0 = []

-- 1000 tick
abbrev pub entry0 : Event
entry0 = Tick 1000 []

abbrev pub J1 : Journal
J1 = entry0 ∷ J0

abbrev pub frame1 : Caught
frame1 = record { bytes = (bytes (codes "00051e000002001b2100000a810000648914100000020001002680000724000022fffffe0000000001290000000000000001ffff00000000040000002020000080000840") ++ zeros 8 ++ bytes (codes "2000001b2100000a1000001b21000001") ++ zeros 32 ++ (128 ∷ []) ++ zeros 47 ++ bytes (codes "0202000000000000")); whole = true }

-- 1000 1 0 granted 010100
abbrev pub entry1 : Event
entry1 = Frame 1 0 frame1 (Granted 0x010100)

pub entry1_is_right : verdicts.IsRight C (state.tables_of C J1) 1 frame1 (Granted 0x010100)
unfolding eth.decoded fc.decoded reading.decoded heard.carried heard.is_flogi heard.decoded capsule.decoded crc.crc crc.remainder els.decoded ct.decoded zones.joined rules.rule_for verdicts.judged
entry1_is_right = refl

abbrev pub J2 : Journal
J2 = entry1 ∷ J1

abbrev pub frame2 : Caught
frame2 = record { bytes = (bytes (codes "00051e000002001b2100000d810000648914100000020001002680000724000022fffffe0000000001290000000000000001ffff00000000040000002020000080000840") ++ zeros 8 ++ bytes (codes "2000001b2100000d1000001b21000001") ++ zeros 32 ++ (128 ∷ []) ++ zeros 47 ++ bytes (codes "0202000000000000")); whole = true }

-- 1000 1 1 granted 010101
abbrev pub entry2 : Event
entry2 = Frame 1 1 frame2 (Granted 0x010101)

pub entry2_is_right : verdicts.IsRight C (state.tables_of C J2) 1 frame2 (Granted 0x010101)
unfolding eth.decoded fc.decoded reading.decoded heard.carried heard.is_flogi heard.decoded capsule.decoded crc.crc crc.remainder els.decoded ct.decoded zones.joined rules.rule_for verdicts.judged
entry2_is_right = refl

abbrev pub J3 : Journal
J3 = entry2 ∷ J2

abbrev pub frame3 : Caught
frame3 = record { bytes = (bytes (codes "00051e0000020efc00010100810000648906") ++ zeros 13 ++ bytes (codes "2e22fffffc0001010001290000000000000009ffff00000000030000002020000000000840") ++ zeros 8 ++ bytes (codes "2000001b2100000a1000001b21000001") ++ zeros 32 ++ (128 ∷ []) ++ zeros 47 ++ bytes (codes "0ee0feaf42000000")); whole = true }

-- 1000 1 2 ns-login
abbrev pub entry3 : Event
entry3 = Frame 1 2 frame3 NsLogin

pub entry3_is_right : verdicts.IsRight C (state.tables_of C J3) 1 frame3 NsLogin
unfolding eth.decoded fc.decoded reading.decoded heard.carried heard.is_flogi heard.decoded capsule.decoded crc.crc crc.remainder els.decoded ct.decoded zones.joined rules.rule_for verdicts.judged
entry3_is_right = refl

abbrev pub J4 : Journal
J4 = entry3 ∷ J3

abbrev pub frame4 : Caught
frame4 = record { bytes = (bytes (codes "00051e0000020efc00010100810000648906") ++ zeros 13 ++ bytes (codes "2e02fffffc0001010020290000000000000171ffff0000000001000000fb0200000171000000000000ffd1971142000000")); whole = true }

-- 1000 1 3 refused 0b 00
abbrev pub entry4 : Event
entry4 = Frame 1 3 frame4 (Refused 0x0b 0x00)

pub entry4_is_right : verdicts.IsRight C (state.tables_of C J4) 1 frame4 (Refused 0x0b 0x00)
unfolding eth.decoded fc.decoded reading.decoded heard.carried heard.is_flogi heard.decoded capsule.decoded crc.crc crc.remainder els.decoded ct.decoded zones.joined rules.rule_for verdicts.judged
entry4_is_right = refl

abbrev pub J5 : Journal
J5 = entry4 ∷ J4

abbrev pub frame5 : Caught
frame5 = record { bytes = (bytes (codes "00051e0000020efc00010100810000648906") ++ zeros 13 ++ bytes (codes "2e02fffffc0001010020290000000000000112ffff0000000001000000fc03000001120000000000005d9d156f42000000")); whole = true }

-- 1000 1 4 refused 0b 00
abbrev pub entry5 : Event
entry5 = Frame 1 4 frame5 (Refused 0x0b 0x00)

pub entry5_is_right : verdicts.IsRight C (state.tables_of C J5) 1 frame5 (Refused 0x0b 0x00)
unfolding eth.decoded fc.decoded reading.decoded heard.carried heard.is_flogi heard.decoded capsule.decoded crc.crc crc.remainder els.decoded ct.decoded zones.joined rules.rule_for verdicts.judged
entry5_is_right = refl

abbrev pub J6 : Journal
J6 = entry5 ∷ J5

abbrev pub frame6 : Caught
frame6 = record { bytes = (bytes (codes "00051e0000020efc00010100810000648906") ++ zeros 13 ++ bytes (codes "2e02fffffc0001010020290000000000000172ffff0000000001000000fc0200000172000000000000d01b022242000000")); whole = true }

-- 1000 1 5 refused 04 00
abbrev pub entry6 : Event
entry6 = Frame 1 5 frame6 (Refused 0x04 0x00)

pub entry6_is_right : verdicts.IsRight C (state.tables_of C J6) 1 frame6 (Refused 0x04 0x00)
unfolding eth.decoded fc.decoded reading.decoded heard.carried heard.is_flogi heard.decoded capsule.decoded crc.crc crc.remainder els.decoded ct.decoded zones.joined rules.rule_for verdicts.judged
entry6_is_right = refl

abbrev pub J7 : Journal
J7 = entry6 ∷ J6

abbrev pub frame7 : Caught
frame7 = record { bytes = (bytes (codes "00051e0000020efc00010100810000648906") ++ zeros 13 ++ bytes (codes "2e02fffffc0001010020290000000000000400ffff0000000001000000fc0200000400000000000000c36ffd1242000000")); whole = true }

-- 1000 1 6 refused 0b 00
abbrev pub entry7 : Event
entry7 = Frame 1 6 frame7 (Refused 0x0b 0x00)

pub entry7_is_right : verdicts.IsRight C (state.tables_of C J7) 1 frame7 (Refused 0x0b 0x00)
unfolding eth.decoded fc.decoded reading.decoded heard.carried heard.is_flogi heard.decoded capsule.decoded crc.crc crc.remainder els.decoded ct.decoded zones.joined rules.rule_for verdicts.judged
entry7_is_right = refl

abbrev pub J8 : Journal
J8 = entry7 ∷ J7

abbrev pub frame8 : Caught
frame8 = record { bytes = (bytes (codes "00051e0000020efc00010100810000648906") ++ zeros 13 ++ bytes (codes "2e02fffffc0001010020290000000000000217ffff0000000001000000fc0200000217000000000000000101") ++ zeros 29 ++ bytes (codes "dbc2d99d42000000")); whole = true }

-- 1000 1 7 refused 04 00
abbrev pub entry8 : Event
entry8 = Frame 1 7 frame8 (Refused 0x04 0x00)

pub entry8_is_right : verdicts.IsRight C (state.tables_of C J8) 1 frame8 (Refused 0x04 0x00)
unfolding eth.decoded fc.decoded reading.decoded heard.carried heard.is_flogi heard.decoded capsule.decoded crc.crc crc.remainder els.decoded ct.decoded zones.joined rules.rule_for verdicts.judged
entry8_is_right = refl

abbrev pub J9 : Journal
J9 = entry8 ∷ J8

abbrev pub frame9 : Caught
frame9 = record { bytes = (bytes (codes "00051e0000020efc00010100810000648906") ++ zeros 13 ++ bytes (codes "2e02fffffc0001010020290000000000000218ffff0000000001000000fc020000021800000000000000010100d854072e42000000")); whole = true }

-- 1000 1 8 refused 04 00
abbrev pub entry9 : Event
entry9 = Frame 1 8 frame9 (Refused 0x04 0x00)

pub entry9_is_right : verdicts.IsRight C (state.tables_of C J9) 1 frame9 (Refused 0x04 0x00)
unfolding eth.decoded fc.decoded reading.decoded heard.carried heard.is_flogi heard.decoded capsule.decoded crc.crc crc.remainder els.decoded ct.decoded zones.joined rules.rule_for verdicts.judged
entry9_is_right = refl

abbrev pub J10 : Journal
J10 = entry9 ∷ J9

abbrev pub frame10 : Caught
frame10 = record { bytes = (bytes (codes "00051e0000020efc00010100810000648906") ++ zeros 13 ++ bytes (codes "2e02fffffc0001010020290000000000000239ffff0000000001000000fc0200000239") ++ zeros 13 ++ bytes (codes "014faaff1842000000")); whole = true }

-- 1000 1 9 refused 04 00
abbrev pub entry10 : Event
entry10 = Frame 1 9 frame10 (Refused 0x04 0x00)

pub entry10_is_right : verdicts.IsRight C (state.tables_of C J10) 1 frame10 (Refused 0x04 0x00)
unfolding eth.decoded fc.decoded reading.decoded heard.carried heard.is_flogi heard.decoded capsule.decoded crc.crc crc.remainder els.decoded ct.decoded zones.joined rules.rule_for verdicts.judged
entry10_is_right = refl

abbrev pub J11 : Journal
J11 = entry10 ∷ J10

abbrev pub frame11 : Caught
frame11 = record { bytes = (bytes (codes "00051e0000020efc00010100810000648906") ++ zeros 13 ++ bytes (codes "2e02fffffc0001010020290000000000000213ffff0000000001000000fc02000002130000000000000001010100000000000000015cfea98f42000000")); whole = true }

-- 1000 1 10 refused 09 01
abbrev pub entry11 : Event
entry11 = Frame 1 10 frame11 (Refused 0x09 0x01)

pub entry11_is_right : verdicts.IsRight C (state.tables_of C J11) 1 frame11 (Refused 0x09 0x01)
unfolding eth.decoded fc.decoded reading.decoded heard.carried heard.is_flogi heard.decoded capsule.decoded crc.crc crc.remainder els.decoded ct.decoded zones.joined rules.rule_for verdicts.judged
entry11_is_right = refl

abbrev pub J12 : Journal
J12 = entry11 ∷ J11

abbrev pub frame12 : Caught
frame12 = record { bytes = (bytes (codes "00051e0000020efc00010100810000648906") ++ zeros 13 ++ bytes (codes "2e02fffffc0001010020290000000000000300ffff0000000001000000fc02000003") ++ zeros 8 ++ bytes (codes "0101016d8dd34b42000000")); whole = true }

-- 1000 1 11 refused 09 01
abbrev pub entry12 : Event
entry12 = Frame 1 11 frame12 (Refused 0x09 0x01)

pub entry12_is_right : verdicts.IsRight C (state.tables_of C J12) 1 frame12 (Refused 0x09 0x01)
unfolding eth.decoded fc.decoded reading.decoded heard.carried heard.is_flogi heard.decoded capsule.decoded crc.crc crc.remainder els.decoded ct.decoded zones.joined rules.rule_for verdicts.judged
entry12_is_right = refl

abbrev pub J13 : Journal
J13 = entry12 ∷ J12

abbrev pub frame13 : Caught
frame13 = record { bytes = (bytes (codes "00051e0000020efc00010100810000648906") ++ zeros 13 ++ bytes (codes "2e02fffffc0001010020290000000000000112ffff0000000001000000fc020000011200000000000000010101150975d142000000")); whole = true }

-- 1000 1 12 refused 09 01
abbrev pub entry13 : Event
entry13 = Frame 1 12 frame13 (Refused 0x09 0x01)

pub entry13_is_right : verdicts.IsRight C (state.tables_of C J13) 1 frame13 (Refused 0x09 0x01)
unfolding eth.decoded fc.decoded reading.decoded heard.carried heard.is_flogi heard.decoded capsule.decoded crc.crc crc.remainder els.decoded ct.decoded zones.joined rules.rule_for verdicts.judged
entry13_is_right = refl

abbrev pub J14 : Journal
J14 = entry13 ∷ J13

abbrev pub frame14 : Caught
frame14 = record { bytes = (bytes (codes "00051e0000020efc00010100810000648906") ++ zeros 13 ++ bytes (codes "2e02fffffc0001010020290000000000000121ffff0000000001000000fc02000001210000000000002000001b2100000de7cefc1542000000")); whole = true }

-- 1000 1 13 refused 09 02
abbrev pub entry14 : Event
entry14 = Frame 1 13 frame14 (Refused 0x09 0x02)

pub entry14_is_right : verdicts.IsRight C (state.tables_of C J14) 1 frame14 (Refused 0x09 0x02)
unfolding eth.decoded fc.decoded reading.decoded heard.carried heard.is_flogi heard.decoded capsule.decoded crc.crc crc.remainder els.decoded ct.decoded zones.joined rules.rule_for verdicts.judged
entry14_is_right = refl

abbrev pub J15 : Journal
J15 = entry14 ∷ J14

abbrev pub frame15 : Caught
frame15 = record { bytes = (bytes (codes "00051e0000020efc00010100810000648906") ++ zeros 13 ++ bytes (codes "2e02fffffc0001010020290000000000000172ffff0000000001000000fc0200000172") ++ zeros 9 ++ bytes (codes "084081eefe42000000")); whole = true }

-- 1000 1 14 refused 09 07
abbrev pub entry15 : Event
entry15 = Frame 1 14 frame15 (Refused 0x09 0x07)

pub entry15_is_right : verdicts.IsRight C (state.tables_of C J15) 1 frame15 (Refused 0x09 0x07)
unfolding eth.decoded fc.decoded reading.decoded heard.carried heard.is_flogi heard.decoded capsule.decoded crc.crc crc.remainder els.decoded ct.decoded zones.joined rules.rule_for verdicts.judged
entry15_is_right = refl

abbrev pub J16 : Journal
J16 = entry15 ∷ J15

abbrev pub frame16 : Caught
frame16 = record { bytes = (bytes (codes "00051e0000020efc00010100810000648906") ++ zeros 13 ++ bytes (codes "2e02fffffc00010100202900000000000001a1ffff0000000001000000fc02000001a1000000000000020000013d02f36a42000000")); whole = true }

-- 1000 1 15 refused 09 00
abbrev pub entry16 : Event
entry16 = Frame 1 15 frame16 (Refused 0x09 0x00)

pub entry16_is_right : verdicts.IsRight C (state.tables_of C J16) 1 frame16 (Refused 0x09 0x00)
unfolding eth.decoded fc.decoded reading.decoded heard.carried heard.is_flogi heard.decoded capsule.decoded crc.crc crc.remainder els.decoded ct.decoded zones.joined rules.rule_for verdicts.judged
entry16_is_right = refl

abbrev pub J17 : Journal
J17 = entry16 ∷ J16

abbrev pub frame17 : Caught
frame17 = record { bytes = (bytes (codes "00051e0000020efc00010100810000648906") ++ zeros 13 ++ bytes (codes "2e02fffffc000101002029000000000000011effff0000000001000000fc020000011e000000000000000101008b16ab0f42000000")); whole = true }

-- 1000 1 16 refused 0b 00
abbrev pub entry17 : Event
entry17 = Frame 1 16 frame17 (Refused 0x0b 0x00)

pub entry17_is_right : verdicts.IsRight C (state.tables_of C J17) 1 frame17 (Refused 0x0b 0x00)
unfolding eth.decoded fc.decoded reading.decoded heard.carried heard.is_flogi heard.decoded capsule.decoded crc.crc crc.remainder els.decoded ct.decoded zones.joined rules.rule_for verdicts.judged
entry17_is_right = refl

abbrev pub J18 : Journal
J18 = entry17 ∷ J17

abbrev pub frame18 : Caught
frame18 = record { bytes = (bytes (codes "00051e0000020efc00010100810000648906") ++ zeros 13 ++ bytes (codes "2e22fffffc0001010001290000000000000009ffff0000000005000000000101002000001b2100000b6ab8201f42000000")); whole = true }

-- 1000 1 17 ns-logout
abbrev pub entry18 : Event
entry18 = Frame 1 17 frame18 NsLogout

pub entry18_is_right : verdicts.IsRight C (state.tables_of C J18) 1 frame18 NsLogout
unfolding eth.decoded fc.decoded reading.decoded heard.carried heard.is_flogi heard.decoded capsule.decoded crc.crc crc.remainder els.decoded ct.decoded zones.joined rules.rule_for verdicts.judged
entry18_is_right = refl

abbrev pub J19 : Journal
J19 = entry18 ∷ J18

abbrev pub frame19 : Caught
frame19 = record { bytes = (bytes (codes "00051e0000020efc00010100810000648906") ++ zeros 13 ++ bytes (codes "2e02fffffc0001010020290000000000000112ffff0000000001000000fc020000011200000000000000010100833972a642000000")); whole = true }

-- 1000 1 18 refused 09 10
abbrev pub entry19 : Event
entry19 = Frame 1 18 frame19 (Refused 0x09 0x10)

pub entry19_is_right : verdicts.IsRight C (state.tables_of C J19) 1 frame19 (Refused 0x09 0x10)
unfolding eth.decoded fc.decoded reading.decoded heard.carried heard.is_flogi heard.decoded capsule.decoded crc.crc crc.remainder els.decoded ct.decoded zones.joined rules.rule_for verdicts.judged
entry19_is_right = refl

abbrev pub J20 : Journal
J20 = entry19 ∷ J19

pub sent_at_entry0_on_port1 : map (λ s. s.bytes) (filter (λ s. s.port == 1) (outs.outputs_by C 1 (record { tables = state.tables_of C J0; advertised = outs.advertised_at C J0; rscns = 0 }) (state.tables_of C J1) entry0 ++ outs.outputs_by C 1 (record { tables = state.tables_of C J1; advertised = outs.advertised_at C J1; rscns = 0 }) (state.tables_of C J2) entry1 ++ outs.outputs_by C 1 (record { tables = state.tables_of C J2; advertised = outs.advertised_at C J2; rscns = 0 }) (state.tables_of C J3) entry2 ++ outs.outputs_by C 1 (record { tables = state.tables_of C J3; advertised = outs.advertised_at C J3; rscns = 0 }) (state.tables_of C J4) entry3 ++ outs.outputs_by C 1 (record { tables = state.tables_of C J4; advertised = outs.advertised_at C J4; rscns = 0 }) (state.tables_of C J5) entry4 ++ outs.outputs_by C 1 (record { tables = state.tables_of C J5; advertised = outs.advertised_at C J5; rscns = 0 }) (state.tables_of C J6) entry5 ++ outs.outputs_by C 1 (record { tables = state.tables_of C J6; advertised = outs.advertised_at C J6; rscns = 0 }) (state.tables_of C J7) entry6 ++ outs.outputs_by C 1 (record { tables = state.tables_of C J7; advertised = outs.advertised_at C J7; rscns = 0 }) (state.tables_of C J8) entry7 ++ outs.outputs_by C 1 (record { tables = state.tables_of C J8; advertised = outs.advertised_at C J8; rscns = 0 }) (state.tables_of C J9) entry8 ++ outs.outputs_by C 1 (record { tables = state.tables_of C J9; advertised = outs.advertised_at C J9; rscns = 0 }) (state.tables_of C J10) entry9 ++ outs.outputs_by C 1 (record { tables = state.tables_of C J10; advertised = outs.advertised_at C J10; rscns = 0 }) (state.tables_of C J11) entry10 ++ outs.outputs_by C 1 (record { tables = state.tables_of C J11; advertised = outs.advertised_at C J11; rscns = 0 }) (state.tables_of C J12) entry11 ++ outs.outputs_by C 1 (record { tables = state.tables_of C J12; advertised = outs.advertised_at C J12; rscns = 0 }) (state.tables_of C J13) entry12 ++ outs.outputs_by C 1 (record { tables = state.tables_of C J13; advertised = outs.advertised_at C J13; rscns = 0 }) (state.tables_of C J14) entry13 ++ outs.outputs_by C 1 (record { tables = state.tables_of C J14; advertised = outs.advertised_at C J14; rscns = 0 }) (state.tables_of C J15) entry14 ++ outs.outputs_by C 1 (record { tables = state.tables_of C J15; advertised = outs.advertised_at C J15; rscns = 0 }) (state.tables_of C J16) entry15 ++ outs.outputs_by C 1 (record { tables = state.tables_of C J16; advertised = outs.advertised_at C J16; rscns = 0 }) (state.tables_of C J17) entry16 ++ outs.outputs_by C 1 (record { tables = state.tables_of C J17; advertised = outs.advertised_at C J17; rscns = 0 }) (state.tables_of C J18) entry17 ++ outs.outputs_by C 1 (record { tables = state.tables_of C J18; advertised = outs.advertised_at C J18; rscns = 0 }) (state.tables_of C J19) entry18 ++ outs.outputs_by C 1 (record { tables = state.tables_of C J19; advertised = outs.advertised_at C J19; rscns = 0 }) (state.tables_of C J20) entry19)) ≡ (bytes (codes "001b2100000a00051e00000281006064891410000002000200268000072400002301010000fffffe01980000000000000001ffff0000000002000000202000003000084000002710000007d0200100051e000002100000051e000002") ++ zeros 32 ++ (136 ∷ []) ++ zeros 47 ++ bytes (codes "02020efc00010100")) ∷ (bytes (codes "001b2100000d00051e00000281006064891410000002000200268000072400002301010100fffffe01980000000000000001ffff0000000002000000202000003000084000002710000007d0200100051e000002100000051e000002") ++ zeros 32 ++ (136 ∷ []) ++ zeros 47 ++ bytes (codes "02020efc00010101")) ∷ (bytes (codes "0efc0001010000051e000002810060648906") ++ zeros 13 ++ bytes (codes "2e2301010000fffffc01980000000000000009ffff0000000002000000202000000000084000ff0000000007d0200000051e000002100000051e000002") ++ zeros 32 ++ bytes (codes "800000000000084000ff00000001") ++ zeros 34 ++ bytes (codes "2c7c6cd442000000")) ∷ (bytes (codes "0efc0001010000051e000002810060648906") ++ zeros 13 ++ bytes (codes "2e0301010000fffffc20980000000000000171ffff0000000001000000fc02000080010000000b0000a860ed8f42000000")) ∷ (bytes (codes "0efc0001010000051e000002810060648906") ++ zeros 13 ++ bytes (codes "2e0301010000fffffc20980000000000000112ffff0000000001000000fc02000080010000000b00003d4c27fe42000000")) ∷ (bytes (codes "0efc0001010000051e000002810060648906") ++ zeros 13 ++ bytes (codes "2e0301010000fffffc20980000000000000172ffff0000000001000000fc0200008001000000040000a81e54f242000000")) ∷ (bytes (codes "0efc0001010000051e000002810060648906") ++ zeros 13 ++ bytes (codes "2e0301010000fffffc20980000000000000400ffff0000000001000000fc02000080010000000b0000e0e2e0fa42000000")) ∷ (bytes (codes "0efc0001010000051e000002810060648906") ++ zeros 13 ++ bytes (codes "2e0301010000fffffc20980000000000000217ffff0000000001000000fc02000080010000000400006fe94a3642000000")) ∷ (bytes (codes "0efc0001010000051e000002810060648906") ++ zeros 13 ++ bytes (codes "2e0301010000fffffc20980000000000000218ffff0000000001000000fc0200008001000000040000e7324a4042000000")) ∷ (bytes (codes "0efc0001010000051e000002810060648906") ++ zeros 13 ++ bytes (codes "2e0301010000fffffc20980000000000000239ffff0000000001000000fc0200008001000000040000abd4dcd942000000")) ∷ (bytes (codes "0efc0001010000051e000002810060648906") ++ zeros 13 ++ bytes (codes "2e0301010000fffffc20980000000000000213ffff0000000001000000fc0200008001000000090100eeead52742000000")) ∷ (bytes (codes "0efc0001010000051e000002810060648906") ++ zeros 13 ++ bytes (codes "2e0301010000fffffc20980000000000000300ffff0000000001000000fc0200008001000000090100b83067d142000000")) ∷ (bytes (codes "0efc0001010000051e000002810060648906") ++ zeros 13 ++ bytes (codes "2e0301010000fffffc20980000000000000112ffff0000000001000000fc020000800100000009010012a9b8e442000000")) ∷ (bytes (codes "0efc0001010000051e000002810060648906") ++ zeros 13 ++ bytes (codes "2e0301010000fffffc20980000000000000121ffff0000000001000000fc02000080010000000902003849e7ba42000000")) ∷ (bytes (codes "0efc0001010000051e000002810060648906") ++ zeros 13 ++ bytes (codes "2e0301010000fffffc20980000000000000172ffff0000000001000000fc02000080010000000907003c1bcdb542000000")) ∷ (bytes (codes "0efc0001010000051e000002810060648906") ++ zeros 13 ++ bytes (codes "2e0301010000fffffc209800000000000001a1ffff0000000001000000fc0200008001000000090000da19458342000000")) ∷ (bytes (codes "0efc0001010000051e000002810060648906") ++ zeros 13 ++ bytes (codes "2e0301010000fffffc2098000000000000011effff0000000001000000fc02000080010000000b000088aec2fe42000000")) ∷ (bytes (codes "0efc0001010000051e000002810060648906") ++ zeros 13 ++ bytes (codes "2e2301010000fffffc01980000000000000009ffff00000000020000001db4b48f42000000")) ∷ (bytes (codes "0efc0001010000051e000002810060648906") ++ zeros 13 ++ bytes (codes "2e0301010000fffffc20980000000000000112ffff0000000001000000fc0200008001000000091000028a61b742000000")) ∷ []
unfolding eth.decoded fc.decoded reading.decoded heard.carried heard.is_flogi capsule.written crc.crc crc.remainder fip.written els.written ct.decoded answer.written zones.joined server.query server.feature_word server.feature_words outs.notices outs.outputs_by
sent_at_entry0_on_port1 = refl

pub logins_at_the_end : map {B = List ℕ} (λ p. p.address ∷ p.name ∷ p.values.node_name ∷ p.enode.port ∷ p.node_heard ∷ p.port_heard ∷ unwrap_or p.server 0 ∷ p.watch ∷ []) (state.tables_of C J20).ports ≡ (0x010100 ∷ 0x2000001b2100000a ∷ 0x1000001b21000001 ∷ 1 ∷ 1000 ∷ 1000 ∷ 0 ∷ 0 ∷ []) ∷ (0x010101 ∷ 0x2000001b2100000d ∷ 0x1000001b21000001 ∷ 1 ∷ 1000 ∷ 1000 ∷ 0 ∷ 0 ∷ []) ∷ []
unfolding eth.decoded fc.decoded reading.decoded heard.carried heard.is_flogi ct.decoded
logins_at_the_end = refl

pub type_maps : map {B = List ℕ} (λ p. p.values.types.0) (state.tables_of C J20).ports ≡ (0x00000000 ∷ 0x00000000 ∷ 0x00000000 ∷ 0x00000000 ∷ 0x00000000 ∷ 0x00000000 ∷ 0x00000000 ∷ 0x00000000 ∷ []) ∷ (0x00000000 ∷ 0x00000000 ∷ 0x00000000 ∷ 0x00000000 ∷ 0x00000000 ∷ 0x00000000 ∷ 0x00000000 ∷ 0x00000000 ∷ []) ∷ []
unfolding eth.decoded fc.decoded reading.decoded heard.carried heard.is_flogi ct.decoded
type_maps = refl

pub lines : text.text J20 ≡ codes "journal 2\n1000 tick\n1000 1 0 granted 010100\n1000 1 1 granted 010101\n1000 1 2 ns-login\n1000 1 3 refused 0b 00\n1000 1 4 refused 0b 00\n1000 1 5 refused 04 00\n1000 1 6 refused 0b 00\n1000 1 7 refused 04 00\n1000 1 8 refused 04 00\n1000 1 9 refused 04 00\n1000 1 10 refused 09 01\n1000 1 11 refused 09 01\n1000 1 12 refused 09 01\n1000 1 13 refused 09 02\n1000 1 14 refused 09 07\n1000 1 15 refused 09 00\n1000 1 16 refused 0b 00\n1000 1 17 ns-logout\n1000 1 18 refused 09 10\n"
unfolding text.text fmt.digits
lines = refl
