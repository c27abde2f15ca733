-- FIP frames at the edges of their grammar.
use Rattle.std.specs.Prelude.{◌≡◌, ℕ, ◌==◌, unwrap_or, true, false, List, [], ◌∷◌, ◌++◌, refl, map, filter, codes}
use Rattle.fab_base.specs.declared.values.Caught.{Caught}
use Rattle.fab_config.specs.Settings.{Settings}
use Rattle.fab_policy.specs.State as state
use Rattle.fab_policy.specs.Verdicts as verdicts
use Rattle.ct_messages.specs.Server as server
use Rattle.fab_policy.specs.Rules as rules
use Rattle.heard_frames.specs.Heard as heard
use Rattle.fab_policy.specs.Cause as cause
use Rattle.fab_policy.specs.Outputs as outs
use Rattle.fab_policy.specs.declared.event.Event.{Event}
use Rattle.fab_policy.specs.declared.event.Event.TheVariants.{Tick, Frame}
use Rattle.fab_policy.specs.declared.verdict.Verdict.TheVariants.{Vlans, Advertised, Dropped}
use Rattle.fab_policy.specs.declared.verdict.Rule.TheVariants as rule
use Rattle.eth_frames.specs.Ethernet as eth
use Rattle.fc_check.specs.Crc as crc
use Rattle.fc_frames.specs.Frame as fc
use Rattle.fcoe_codec.specs.Fcoe as capsule
use Rattle.fip_codec.specs.Message as fip
use Rattle.fip_codec.specs.Reading as reading
use Rattle.els_messages.specs.Els as els
use Rattle.ct_messages.specs.Ct as ct
use Rattle.ct_messages.specs.Answer as answer
use Rattle.zone_rules.specs.Joined as zones
use Rattle.std.specs.Fmt as fmt
use Rattle.fab_policy.specs.Journal.{Journal}
use Rattle.fab_policy.specs.Text as text
use Rattle.fab_base.specs.Layout.{zeros}
use Rattle.examples.specs.Given.{bytes}

abbrev pub C : Settings
C = record { switch = 0x100000051e000002; fcf_mac = bytes (codes "00051e000002"); fc_map = 0xefc00; vlan = 100; domain = 1; pool = 4; priority = 128; period = 8000; window = 100; limit = 240; zones = []; sets = []; activations = [] }

abbrev pub J0 : Journal
J0 = []

-- 1000 tick
abbrev pub entry0 : Event
entry0 = Tick 1000 []

abbrev pub J1 : Journal
J1 = entry0 ∷ J0

abbrev pub frame1 : Caught
frame1 = record { bytes = bytes (codes "00051e000002001b2100000a810000648914200000040001000200000202001b2100000a"); whole = true }

-- 1000 1 0 dropped fip-version
abbrev pub entry1 : Event
entry1 = Frame 1 0 frame1 (Dropped (cause.plain rule.FipVersion))

pub entry1_is_right : verdicts.IsRight C (state.tables_of C J1) 1 frame1 (Dropped (cause.plain rule.FipVersion))
unfolding eth.decoded fc.decoded reading.decoded heard.carried heard.is_flogi heard.decoded capsule.decoded crc.crc crc.remainder els.decoded ct.decoded zones.joined rules.rule_for verdicts.judged
entry1_is_right = refl

abbrev pub J2 : Journal
J2 = entry1 ∷ J1

abbrev pub frame2 : Caught
frame2 = record { bytes = bytes (codes "00051e000002001b2100000a8100006489141f0000040001000200000202001b2100000a"); whole = true }

-- 1000 1 1 vlans
abbrev pub entry2 : Event
entry2 = Frame 1 1 frame2 Vlans

pub entry2_is_right : verdicts.IsRight C (state.tables_of C J2) 1 frame2 Vlans
unfolding eth.decoded fc.decoded reading.decoded heard.carried heard.is_flogi heard.decoded capsule.decoded crc.crc crc.remainder els.decoded ct.decoded zones.joined rules.rule_for verdicts.judged
entry2_is_right = refl

abbrev pub J3 : Journal
J3 = entry2 ∷ J2

abbrev pub frame3 : Caught
frame3 = record { bytes = bytes (codes "011018010002001b2100000a810000648914100000010001000680000202001b2100000a040300002000001b2100000a060100"); whole = true }

-- 1000 1 2 dropped fip-list
abbrev pub entry3 : Event
entry3 = Frame 1 2 frame3 (Dropped (cause.plain rule.FipList))

pub entry3_is_right : verdicts.IsRight C (state.tables_of C J3) 1 frame3 (Dropped (cause.plain rule.FipList))
unfolding eth.decoded fc.decoded reading.decoded heard.carried heard.is_flogi heard.decoded capsule.decoded crc.crc crc.remainder els.decoded ct.decoded zones.joined rules.rule_for verdicts.judged
entry3_is_right = refl

abbrev pub J4 : Journal
J4 = entry3 ∷ J3

abbrev pub frame4 : Caught
frame4 = record { bytes = bytes (codes "011018010002001b2100000a810000648914100000040001000300000202001b2100000a80010000"); whole = true }

-- 1000 1 3 vlans
abbrev pub entry4 : Event
entry4 = Frame 1 3 frame4 Vlans

pub entry4_is_right : verdicts.IsRight C (state.tables_of C J4) 1 frame4 Vlans
unfolding eth.decoded fc.decoded reading.decoded heard.carried heard.is_flogi heard.decoded capsule.decoded crc.crc crc.remainder els.decoded ct.decoded zones.joined rules.rule_for verdicts.judged
entry4_is_right = refl

abbrev pub J5 : Journal
J5 = entry4 ∷ J4

abbrev pub frame5 : Caught
frame5 = record { bytes = bytes (codes "011018010002001b2100000a810000648914100000040001000300000202001b2100000a7f010000"); whole = true }

-- 1000 1 4 dropped fip-critical 18
abbrev pub entry5 : Event
entry5 = Frame 1 4 frame5 (Dropped (cause.numbered rule.FipCritical 18))

pub entry5_is_right : verdicts.IsRight C (state.tables_of C J5) 1 frame5 (Dropped (cause.numbered rule.FipCritical 18))
unfolding eth.decoded fc.decoded reading.decoded heard.carried heard.is_flogi heard.decoded capsule.decoded crc.crc crc.remainder els.decoded ct.decoded zones.joined rules.rule_for verdicts.judged
entry5_is_right = refl

abbrev pub J6 : Journal
J6 = entry5 ∷ J5

abbrev pub frame6 : Caught
frame6 = record { bytes = (bytes (codes "00051e000002001b2100000a810000648914100000020001000880000706") ++ zeros 22 ++ bytes (codes "0202001b2100000a")); whole = true }

-- 1000 1 5 dropped fip-length 10
abbrev pub entry6 : Event
entry6 = Frame 1 5 frame6 (Dropped (cause.numbered rule.FipLength 10))

pub entry6_is_right : verdicts.IsRight C (state.tables_of C J6) 1 frame6 (Dropped (cause.numbered rule.FipLength 10))
unfolding eth.decoded fc.decoded reading.decoded heard.carried heard.is_flogi heard.decoded capsule.decoded crc.crc crc.remainder els.decoded ct.decoded zones.joined rules.rule_for verdicts.judged
entry6_is_right = refl

abbrev pub J7 : Journal
J7 = entry6 ∷ J6

abbrev pub frame7 : Caught
frame7 = record { bytes = bytes (codes "00051e000002001b2100000a810000648914100000020001001080000707000022fffffe0000000001290000000000000001ffff000000000907000022fffffe0000000001290000000000000001ffff000000000202001b2100000a"); whole = true }

-- 1000 1 6 dropped fip-double 38
abbrev pub entry7 : Event
entry7 = Frame 1 6 frame7 (Dropped (cause.numbered rule.FipDouble 38))

pub entry7_is_right : verdicts.IsRight C (state.tables_of C J7) 1 frame7 (Dropped (cause.numbered rule.FipDouble 38))
unfolding eth.decoded fc.decoded reading.decoded heard.carried heard.is_flogi heard.decoded capsule.decoded crc.crc crc.remainder els.decoded ct.decoded zones.joined rules.rule_for verdicts.judged
entry7_is_right = refl

abbrev pub J8 : Journal
J8 = entry7 ∷ J7

abbrev pub frame8 : Caught
frame8 = record { bytes = bytes (codes "00051e000002001b2100000a810000648914100000040001000300000202001b2100000a"); whole = true }

-- 1000 1 7 dropped fip-list
abbrev pub entry8 : Event
entry8 = Frame 1 7 frame8 (Dropped (cause.plain rule.FipList))

pub entry8_is_right : verdicts.IsRight C (state.tables_of C J8) 1 frame8 (Dropped (cause.plain rule.FipList))
unfolding eth.decoded fc.decoded reading.decoded heard.carried heard.is_flogi heard.decoded capsule.decoded crc.crc crc.remainder els.decoded ct.decoded zones.joined rules.rule_for verdicts.judged
entry8_is_right = refl

abbrev pub J9 : Journal
J9 = entry8 ∷ J8

abbrev pub frame9 : Caught
frame9 = record { bytes = bytes (codes "00051e000002001b2100000a810000648914100000040001000000"); whole = true }

-- 1000 1 8 dropped fip-short
abbrev pub entry9 : Event
entry9 = Frame 1 8 frame9 (Dropped (cause.plain rule.FipShort))

pub entry9_is_right : verdicts.IsRight C (state.tables_of C J9) 1 frame9 (Dropped (cause.plain rule.FipShort))
unfolding eth.decoded fc.decoded reading.decoded heard.carried heard.is_flogi heard.decoded capsule.decoded crc.crc crc.remainder els.decoded ct.decoded zones.joined rules.rule_for verdicts.judged
entry9_is_right = refl

abbrev pub J10 : Journal
J10 = entry9 ∷ J9

abbrev pub frame10 : Caught
frame10 = record { bytes = bytes (codes "00051e000002001b2100000a810000648914100000040003000200000202001b2100000a"); whole = true }

-- 1000 1 9 dropped fip-operation
abbrev pub entry10 : Event
entry10 = Frame 1 9 frame10 (Dropped (cause.plain rule.FipOperation))

pub entry10_is_right : verdicts.IsRight C (state.tables_of C J10) 1 frame10 (Dropped (cause.plain rule.FipOperation))
unfolding eth.decoded fc.decoded reading.decoded heard.carried heard.is_flogi heard.decoded capsule.decoded crc.crc crc.remainder els.decoded ct.decoded zones.joined rules.rule_for verdicts.judged
entry10_is_right = refl

abbrev pub J11 : Journal
J11 = entry10 ∷ J10

abbrev pub frame11 : Caught
frame11 = record { bytes = bytes (codes "011018010002001b2100000a89"); whole = true }

-- 1000 1 10 dropped eth-short
abbrev pub entry11 : Event
entry11 = Frame 1 10 frame11 (Dropped (cause.plain rule.EthShort))

pub entry11_is_right : verdicts.IsRight C (state.tables_of C J11) 1 frame11 (Dropped (cause.plain rule.EthShort))
unfolding eth.decoded fc.decoded reading.decoded heard.carried heard.is_flogi heard.decoded capsule.decoded crc.crc crc.remainder els.decoded ct.decoded zones.joined rules.rule_for verdicts.judged
entry11_is_right = refl

abbrev pub J12 : Journal
J12 = entry11 ∷ J11

abbrev pub frame12 : Caught
frame12 = record { bytes = bytes (codes "00051e000002001b2100000a8100006489"); whole = true }

-- 1000 1 11 dropped eth-short
abbrev pub entry12 : Event
entry12 = Frame 1 11 frame12 (Dropped (cause.plain rule.EthShort))

pub entry12_is_right : verdicts.IsRight C (state.tables_of C J12) 1 frame12 (Dropped (cause.plain rule.EthShort))
unfolding eth.decoded fc.decoded reading.decoded heard.carried heard.is_flogi heard.decoded capsule.decoded crc.crc crc.remainder els.decoded ct.decoded zones.joined rules.rule_for verdicts.judged
entry12_is_right = refl

abbrev pub J13 : Journal
J13 = entry12 ∷ J12

abbrev pub frame13 : Caught
frame13 = record { bytes = (bytes (codes "00051e000002001b2100000a8100006481") ++ zeros 47); whole = true }

-- 1000 1 12 dropped ethertype
abbrev pub entry13 : Event
entry13 = Frame 1 12 frame13 (Dropped (cause.plain rule.Ethertype))

pub entry13_is_right : verdicts.IsRight C (state.tables_of C J13) 1 frame13 (Dropped (cause.plain rule.Ethertype))
unfolding eth.decoded fc.decoded reading.decoded heard.carried heard.is_flogi heard.decoded capsule.decoded crc.crc crc.remainder els.decoded ct.decoded zones.joined rules.rule_for verdicts.judged
entry13_is_right = refl

abbrev pub J14 : Journal
J14 = entry13 ∷ J13

abbrev pub frame14 : Caught
frame14 = record { bytes = (bytes (codes "00051e000002001b2100000a8100006488cc") ++ zeros 46); whole = true }

-- 1000 1 13 dropped ethertype
abbrev pub entry14 : Event
entry14 = Frame 1 13 frame14 (Dropped (cause.plain rule.Ethertype))

pub entry14_is_right : verdicts.IsRight C (state.tables_of C J14) 1 frame14 (Dropped (cause.plain rule.Ethertype))
unfolding eth.decoded fc.decoded reading.decoded heard.carried heard.is_flogi heard.decoded capsule.decoded crc.crc crc.remainder els.decoded ct.decoded zones.joined rules.rule_for verdicts.judged
entry14_is_right = refl

abbrev pub J15 : Journal
J15 = entry14 ∷ J14

abbrev pub frame15 : Caught
frame15 = record { bytes = bytes (codes "011018010002001b2100000a8914100000040001000200000202001b2100000a"); whole = false }

-- 1000 1 14 dropped truncated
abbrev pub entry15 : Event
entry15 = Frame 1 14 frame15 (Dropped (cause.plain rule.Truncated))

pub entry15_is_right : verdicts.IsRight C (state.tables_of C J15) 1 frame15 (Dropped (cause.plain rule.Truncated))
unfolding eth.decoded fc.decoded reading.decoded heard.carried heard.is_flogi heard.decoded capsule.decoded crc.crc crc.remainder els.decoded ct.decoded zones.joined rules.rule_for verdicts.judged
entry15_is_right = refl

abbrev pub J16 : Journal
J16 = entry15 ∷ J15

abbrev pub frame16 : Caught
frame16 = record { bytes = bytes (codes "011018010002001b2100000a810000648914100000010001000680020202001b2100000a040300002000001b2100000a06010064"); whole = true }

-- 1000 2 0 advertised
abbrev pub entry16 : Event
entry16 = Frame 2 0 frame16 Advertised

pub entry16_is_right : verdicts.IsRight C (state.tables_of C J16) 2 frame16 Advertised
unfolding eth.decoded fc.decoded reading.decoded heard.carried heard.is_flogi heard.decoded capsule.decoded crc.crc crc.remainder els.decoded ct.decoded zones.joined rules.rule_for verdicts.judged
entry16_is_right = refl

abbrev pub J17 : Journal
J17 = entry16 ∷ J16

abbrev pub frame17 : Caught
frame17 = record { bytes = bytes (codes "011018010002001b2100000a810000648914100000040001000200000202001b2100000a"); whole = true }

-- 1000 2 1 vlans
abbrev pub entry17 : Event
entry17 = Frame 2 1 frame17 Vlans

pub entry17_is_right : verdicts.IsRight C (state.tables_of C J17) 2 frame17 Vlans
unfolding eth.decoded fc.decoded reading.decoded heard.carried heard.is_flogi heard.decoded capsule.decoded crc.crc crc.remainder els.decoded ct.decoded zones.joined rules.rule_for verdicts.judged
entry17_is_right = refl

abbrev pub J18 : Journal
J18 = entry17 ∷ J17

abbrev pub frame18 : Caught
frame18 = record { bytes = bytes (codes "011018010002001b2100000a810000008914100000040001000200000202001b2100000a"); whole = true }

-- 1000 2 2 vlans
abbrev pub entry18 : Event
entry18 = Frame 2 2 frame18 Vlans

pub entry18_is_right : verdicts.IsRight C (state.tables_of C J18) 2 frame18 Vlans
unfolding eth.decoded fc.decoded reading.decoded heard.carried heard.is_flogi heard.decoded capsule.decoded crc.crc crc.remainder els.decoded ct.decoded zones.joined rules.rule_for verdicts.judged
entry18_is_right = refl

abbrev pub J19 : Journal
J19 = entry18 ∷ J18

abbrev pub frame19 : Caught
frame19 = record { bytes = bytes (codes "011018010002001b2100000a810000648914100000010001000680000202001b2100000a040300002000001b2100000a06010028"); whole = true }

-- 1000 2 3 advertised
abbrev pub entry19 : Event
entry19 = Frame 2 3 frame19 Advertised

pub entry19_is_right : verdicts.IsRight C (state.tables_of C J19) 2 frame19 Advertised
unfolding eth.decoded fc.decoded reading.decoded heard.carried heard.is_flogi heard.decoded capsule.decoded crc.crc crc.remainder els.decoded ct.decoded zones.joined rules.rule_for verdicts.judged
entry19_is_right = refl

abbrev pub J20 : Journal
J20 = entry19 ∷ J19

-- 1200 tick
abbrev pub entry20 : Event
entry20 = Tick 1200 []

abbrev pub J21 : Journal
J21 = entry20 ∷ J20

abbrev pub frame21 : Caught
frame21 = record { bytes = bytes (codes "011018010002001b2100000a810000648914100000010001000680000202001b2100000a040300002000001b2100000a0601086f"); whole = true }

-- 1200 2 4 advertised
abbrev pub entry21 : Event
entry21 = Frame 2 4 frame21 Advertised

pub entry21_is_right : verdicts.IsRight C (state.tables_of C J21) 2 frame21 Advertised
unfolding eth.decoded fc.decoded reading.decoded heard.carried heard.is_flogi heard.decoded capsule.decoded crc.crc crc.remainder els.decoded ct.decoded zones.joined rules.rule_for verdicts.judged
entry21_is_right = refl

abbrev pub J22 : Journal
J22 = entry21 ∷ J21

pub sent_at_entry0_on_port1 : map (λ s. s.bytes) (filter (λ s. s.port == 1) (outs.outputs_by C 2 (record { tables = state.tables_of C J0; advertised = outs.advertised_at C J0; rscns = 0 }) (state.tables_of C J1) entry0 ++ outs.outputs_by C 2 (record { tables = state.tables_of C J1; advertised = outs.advertised_at C J1; rscns = 0 }) (state.tables_of C J2) entry1 ++ outs.outputs_by C 2 (record { tables = state.tables_of C J2; advertised = outs.advertised_at C J2; rscns = 0 }) (state.tables_of C J3) entry2 ++ outs.outputs_by C 2 (record { tables = state.tables_of C J3; advertised = outs.advertised_at C J3; rscns = 0 }) (state.tables_of C J4) entry3 ++ outs.outputs_by C 2 (record { tables = state.tables_of C J4; advertised = outs.advertised_at C J4; rscns = 0 }) (state.tables_of C J5) entry4 ++ outs.outputs_by C 2 (record { tables = state.tables_of C J5; advertised = outs.advertised_at C J5; rscns = 0 }) (state.tables_of C J6) entry5 ++ outs.outputs_by C 2 (record { tables = state.tables_of C J6; advertised = outs.advertised_at C J6; rscns = 0 }) (state.tables_of C J7) entry6 ++ outs.outputs_by C 2 (record { tables = state.tables_of C J7; advertised = outs.advertised_at C J7; rscns = 0 }) (state.tables_of C J8) entry7 ++ outs.outputs_by C 2 (record { tables = state.tables_of C J8; advertised = outs.advertised_at C J8; rscns = 0 }) (state.tables_of C J9) entry8 ++ outs.outputs_by C 2 (record { tables = state.tables_of C J9; advertised = outs.advertised_at C J9; rscns = 0 }) (state.tables_of C J10) entry9 ++ outs.outputs_by C 2 (record { tables = state.tables_of C J10; advertised = outs.advertised_at C J10; rscns = 0 }) (state.tables_of C J11) entry10 ++ outs.outputs_by C 2 (record { tables = state.tables_of C J11; advertised = outs.advertised_at C J11; rscns = 0 }) (state.tables_of C J12) entry11 ++ outs.outputs_by C 2 (record { tables = state.tables_of C J12; advertised = outs.advertised_at C J12; rscns = 0 }) (state.tables_of C J13) entry12 ++ outs.outputs_by C 2 (record { tables = state.tables_of C J13; advertised = outs.advertised_at C J13; rscns = 0 }) (state.tables_of C J14) entry13 ++ outs.outputs_by C 2 (record { tables = state.tables_of C J14; advertised = outs.advertised_at C J14; rscns = 0 }) (state.tables_of C J15) entry14 ++ outs.outputs_by C 2 (record { tables = state.tables_of C J15; advertised = outs.advertised_at C J15; rscns = 0 }) (state.tables_of C J16) entry15 ++ outs.outputs_by C 2 (record { tables = state.tables_of C J16; advertised = outs.advertised_at C J16; rscns = 0 }) (state.tables_of C J17) entry16 ++ outs.outputs_by C 2 (record { tables = state.tables_of C J17; advertised = outs.advertised_at C J17; rscns = 0 }) (state.tables_of C J18) entry17 ++ outs.outputs_by C 2 (record { tables = state.tables_of C J18; advertised = outs.advertised_at C J18; rscns = 0 }) (state.tables_of C J19) entry18 ++ outs.outputs_by C 2 (record { tables = state.tables_of C J19; advertised = outs.advertised_at C J19; rscns = 0 }) (state.tables_of C J20) entry19)) ≡ (bytes (codes "001b2100000a00051e00000281006064891410000004000200030000020200051e0000020e010064") ++ zeros 20) ∷ (bytes (codes "001b2100000a00051e00000281006064891410000004000200030000020200051e0000020e010064") ++ zeros 20) ∷ []
unfolding eth.decoded fc.decoded reading.decoded heard.carried heard.is_flogi capsule.written crc.crc crc.remainder fip.written els.written ct.decoded answer.written zones.joined server.query server.feature_word server.feature_words outs.notices outs.outputs_by
sent_at_entry0_on_port1 = refl

pub sent_at_entry0_on_port2 : map (λ s. s.bytes) (filter (λ s. s.port == 2) (outs.outputs_by C 2 (record { tables = state.tables_of C J0; advertised = outs.advertised_at C J0; rscns = 0 }) (state.tables_of C J1) entry0 ++ outs.outputs_by C 2 (record { tables = state.tables_of C J1; advertised = outs.advertised_at C J1; rscns = 0 }) (state.tables_of C J2) entry1 ++ outs.outputs_by C 2 (record { tables = state.tables_of C J2; advertised = outs.advertised_at C J2; rscns = 0 }) (state.tables_of C J3) entry2 ++ outs.outputs_by C 2 (record { tables = state.tables_of C J3; advertised = outs.advertised_at C J3; rscns = 0 }) (state.tables_of C J4) entry3 ++ outs.outputs_by C 2 (record { tables = state.tables_of C J4; advertised = outs.advertised_at C J4; rscns = 0 }) (state.tables_of C J5) entry4 ++ outs.outputs_by C 2 (record { tables = state.tables_of C J5; advertised = outs.advertised_at C J5; rscns = 0 }) (state.tables_of C J6) entry5 ++ outs.outputs_by C 2 (record { tables = state.tables_of C J6; advertised = outs.advertised_at C J6; rscns = 0 }) (state.tables_of C J7) entry6 ++ outs.outputs_by C 2 (record { tables = state.tables_of C J7; advertised = outs.advertised_at C J7; rscns = 0 }) (state.tables_of C J8) entry7 ++ outs.outputs_by C 2 (record { tables = state.tables_of C J8; advertised = outs.advertised_at C J8; rscns = 0 }) (state.tables_of C J9) entry8 ++ outs.outputs_by C 2 (record { tables = state.tables_of C J9; advertised = outs.advertised_at C J9; rscns = 0 }) (state.tables_of C J10) entry9 ++ outs.outputs_by C 2 (record { tables = state.tables_of C J10; advertised = outs.advertised_at C J10; rscns = 0 }) (state.tables_of C J11) entry10 ++ outs.outputs_by C 2 (record { tables = state.tables_of C J11; advertised = outs.advertised_at C J11; rscns = 0 }) (state.tables_of C J12) entry11 ++ outs.outputs_by C 2 (record { tables = state.tables_of C J12; advertised = outs.advertised_at C J12; rscns = 0 }) (state.tables_of C J13) entry12 ++ outs.outputs_by C 2 (record { tables = state.tables_of C J13; advertised = outs.advertised_at C J13; rscns = 0 }) (state.tables_of C J14) entry13 ++ outs.outputs_by C 2 (record { tables = state.tables_of C J14; advertised = outs.advertised_at C J14; rscns = 0 }) (state.tables_of C J15) entry14 ++ outs.outputs_by C 2 (record { tables = state.tables_of C J15; advertised = outs.advertised_at C J15; rscns = 0 }) (state.tables_of C J16) entry15 ++ outs.outputs_by C 2 (record { tables = state.tables_of C J16; advertised = outs.advertised_at C J16; rscns = 0 }) (state.tables_of C J17) entry16 ++ outs.outputs_by C 2 (record { tables = state.tables_of C J17; advertised = outs.advertised_at C J17; rscns = 0 }) (state.tables_of C J18) entry17 ++ outs.outputs_by C 2 (record { tables = state.tables_of C J18; advertised = outs.advertised_at C J18; rscns = 0 }) (state.tables_of C J19) entry18 ++ outs.outputs_by C 2 (record { tables = state.tables_of C J19; advertised = outs.advertised_at C J19; rscns = 0 }) (state.tables_of C J20) entry19)) ≡ (bytes (codes "001b2100000a00051e000002810060648914100000010002000c800701010080020200051e00000204030000100000051e00000205040000000efc00100000051e0000020c02000000001f40") ++ zeros 42) ∷ (bytes (codes "001b2100000a00051e00000281006064891410000004000200030000020200051e0000020e010064") ++ zeros 20) ∷ (bytes (codes "001b2100000a00051e000002891410000004000200030000020200051e0000020e010064") ++ zeros 24) ∷ bytes (codes "001b2100000a00051e000002810060648914100000010002000c800701010080020200051e00000204030000100000051e00000205040000000efc00100000051e0000020c02000000001f40") ∷ []
unfolding eth.decoded fc.decoded reading.decoded heard.carried heard.is_flogi capsule.written crc.crc crc.remainder fip.written els.written ct.decoded answer.written zones.joined server.query server.feature_word server.feature_words outs.notices outs.outputs_by
sent_at_entry0_on_port2 = refl

pub sent_at_entry20_on_port1 : map (λ s. s.bytes) (filter (λ s. s.port == 1) (outs.outputs_by C 2 (record { tables = state.tables_of C J20; advertised = outs.advertised_at C J20; rscns = 0 }) (state.tables_of C J21) entry20 ++ outs.outputs_by C 2 (record { tables = state.tables_of C J21; advertised = outs.advertised_at C J21; rscns = 0 }) (state.tables_of C J22) entry21)) ≡ []
unfolding eth.decoded fc.decoded reading.decoded heard.carried heard.is_flogi capsule.written crc.crc crc.remainder fip.written els.written ct.decoded answer.written zones.joined server.query server.feature_word server.feature_words outs.notices outs.outputs_by
sent_at_entry20_on_port1 = refl

pub sent_at_entry20_on_port2 : map (λ s. s.bytes) (filter (λ s. s.port == 2) (outs.outputs_by C 2 (record { tables = state.tables_of C J20; advertised = outs.advertised_at C J20; rscns = 0 }) (state.tables_of C J21) entry20 ++ outs.outputs_by C 2 (record { tables = state.tables_of C J21; advertised = outs.advertised_at C J21; rscns = 0 }) (state.tables_of C J22) entry21)) ≡ (bytes (codes "001b2100000a00051e000002810060648914100000010002000c800701010080020200051e00000204030000100000051e00000205040000000efc00100000051e0000020c02000000001f40") ++ zeros 2100) ∷ []
unfolding eth.decoded fc.decoded reading.decoded heard.carried heard.is_flogi capsule.written crc.crc crc.remainder fip.written els.written ct.decoded answer.written zones.joined server.query server.feature_word server.feature_words outs.notices outs.outputs_by
sent_at_entry20_on_port2 = refl

pub logins_at_the_end : map {B = List ℕ} (λ p. p.address ∷ p.name ∷ p.values.node_name ∷ p.enode.port ∷ p.node_heard ∷ p.port_heard ∷ unwrap_or p.server 0 ∷ p.watch ∷ []) (state.tables_of C J22).ports ≡ []
unfolding eth.decoded fc.decoded reading.decoded heard.carried heard.is_flogi ct.decoded
logins_at_the_end = refl

pub type_maps : map {B = List ℕ} (λ p. p.values.types.0) (state.tables_of C J22).ports ≡ []
unfolding eth.decoded fc.decoded reading.decoded heard.carried heard.is_flogi ct.decoded
type_maps = refl

pub lines : text.text J22 ≡ codes "journal 2\n1000 tick\n1000 1 0 dropped fip-version\n1000 1 1 vlans\n1000 1 2 dropped fip-list\n1000 1 3 vlans\n1000 1 4 dropped fip-critical 18\n1000 1 5 dropped fip-length 10\n1000 1 6 dropped fip-double 38\n1000 1 7 dropped fip-list\n1000 1 8 dropped fip-short\n1000 1 9 dropped fip-operation\n1000 1 10 dropped eth-short\n1000 1 11 dropped eth-short\n1000 1 12 dropped ethertype\n1000 1 13 dropped ethertype\n1000 1 14 dropped truncated\n1000 2 0 advertised\n1000 2 1 vlans\n1000 2 2 vlans\n1000 2 3 advertised\n1200 tick\n1200 2 4 advertised\n"
unfolding text.text fmt.digits
lines = refl
