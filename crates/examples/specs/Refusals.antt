-- Logins that are refused, each by the first condition that holds.
use Rattle.std.specs.Prelude.{◌≡◌, ℕ, ◌==◌, unwrap_or, true, false, List, [], ◌∷◌, ◌++◌, refl, map, filter, codes}
use Rattle.fab_base.specs.declared.values.Caught.{Caught}
use Rattle.fab_config.specs.Settings.{Settings}
use Rattle.fab_policy.specs.State as state
use Rattle.fab_policy.specs.Verdicts as verdicts
use Rattle.ct_messages.specs.Server as server
use Rattle.fab_policy.specs.Rules as rules
use Rattle.heard_frames.specs.Heard as heard
use Rattle.fab_policy.specs.Outputs as outs
use Rattle.fab_policy.specs.declared.event.Event.{Event}
use Rattle.fab_policy.specs.declared.event.Event.TheVariants.{Tick, Frame}
use Rattle.fab_policy.specs.declared.verdict.Verdict.TheVariants.{Granted, Rejected}
use Rattle.eth_frames.specs.Ethernet as eth
use Rattle.fc_check.specs.Crc as crc
use Rattle.fc_frames.specs.Frame as fc
use Rattle.fcoe_codec.specs.Fcoe as capsule
use Rattle.fip_codec.specs.Message as fip
use Rattle.fip_codec.specs.Reading as reading
use Rattle.els_messages.specs.Els as els
use Rattle.ct_messages.specs.Ct as ct
use Rattle.ct_messages.specs.Answer as answer
use Rattle.zone_rules.specs.Joined as zones
use Rattle.std.specs.Fmt as fmt
use Rattle.fab_policy.specs.Journal.{Journal}
use Rattle.fab_base.specs.Counting.{counting}
use Rattle.fab_policy.specs.Free as free
use Rattle.fab_policy.specs.Text as text
use Rattle.fab_base.specs.Layout.{zeros}
use Rattle.examples.specs.Given.{bytes}

abbrev pub C : Settings
C = record { switch = 0x100000051e000002; fcf_mac = bytes (codes "00051e000002"); fc_map = 0xefc00; vlan = 100; domain = 1; pool = 4; priority = 128; period = 8000; window = 100; limit = 3; zones = []; sets = []; activations = [] }

abbrev pub J0 : Journal
J0 = []

-- 1000 tick
abbrev pub entry0 : Event
entry0 = Tick 1000 []

abbrev pub J1 : Journal
J1 = entry0 ∷ J0

abbrev pub frame1 : Caught
frame1 = record { bytes = (bytes (codes "00051e000002001b2100000a810000648914100000020001002600000824000022fffffe0000000001290000000000000001ffff00000000510000002020000080000840") ++ zeros 8 ++ bytes (codes "2000001b2100000a1000001b21000001") ++ zeros 32 ++ (128 ∷ []) ++ zeros 47 ++ bytes (codes "0202000000000000")); whole = true }

-- 1000 1 0 rejected 0b 2c
abbrev pub entry1 : Event
entry1 = Frame 1 0 frame1 (Rejected 0x0b 0x2c)

pub entry1_is_right : verdicts.IsRight C (state.tables_of C J1) 1 frame1 (Rejected 0x0b 0x2c)
unfolding eth.decoded fc.decoded reading.decoded heard.carried heard.is_flogi heard.decoded capsule.decoded crc.crc crc.remainder els.decoded ct.decoded zones.joined rules.rule_for verdicts.judged
entry1_is_right = refl

abbrev pub J2 : Journal
J2 = entry1 ∷ J1

-- 1100 tick
abbrev pub entry2 : Event
entry2 = Tick 1100 []

abbrev pub J3 : Journal
J3 = entry2 ∷ J2

abbrev pub frame3 : Caught
frame3 = record { bytes = (bytes (codes "00051e000002001b2100000a810000648914100000020001002640000724000022fffffe0000000001290000000000000001ffff00000000040000002020000080000840") ++ zeros 8 ++ bytes (codes "2000001b2100000a1000001b21000001") ++ zeros 32 ++ (128 ∷ []) ++ zeros 47 ++ bytes (codes "0202000000000000")); whole = true }

-- 1100 1 1 rejected 0b 2c
abbrev pub entry3 : Event
entry3 = Frame 1 1 frame3 (Rejected 0x0b 0x2c)

pub entry3_is_right : verdicts.IsRight C (state.tables_of C J3) 1 frame3 (Rejected 0x0b 0x2c)
unfolding eth.decoded fc.decoded reading.decoded heard.carried heard.is_flogi heard.decoded capsule.decoded crc.crc crc.remainder els.decoded ct.decoded zones.joined rules.rule_for verdicts.judged
entry3_is_right = refl

abbrev pub J4 : Journal
J4 = entry3 ∷ J3

-- 1200 tick
abbrev pub entry4 : Event
entry4 = Tick 1200 []

abbrev pub J5 : Journal
J5 = entry4 ∷ J4

abbrev pub frame5 : Caught
frame5 = record { bytes = (bytes (codes "00051e000002001b2100000a810000648914100000020001002680000724000022fffffe0000000001290000000000000001ffff00000000040000002020000080000840") ++ zeros 16 ++ bytes (codes "1000001b21000001") ++ zeros 32 ++ (64 ∷ []) ++ zeros 47 ++ bytes (codes "0202000000000000")); whole = true }

-- 1200 1 2 rejected 0b 00
abbrev pub entry5 : Event
entry5 = Frame 1 2 frame5 (Rejected 0x0b 0x00)

pub entry5_is_right : verdicts.IsRight C (state.tables_of C J5) 1 frame5 (Rejected 0x0b 0x00)
unfolding eth.decoded fc.decoded reading.decoded heard.carried heard.is_flogi heard.decoded capsule.decoded crc.crc crc.remainder els.decoded ct.decoded zones.joined rules.rule_for verdicts.judged
entry5_is_right = refl

abbrev pub J6 : Journal
J6 = entry5 ∷ J5

-- 1300 tick
abbrev pub entry6 : Event
entry6 = Tick 1300 []

abbrev pub J7 : Journal
J7 = entry6 ∷ J6

abbrev pub frame7 : Caught
frame7 = record { bytes = (bytes (codes "00051e000002001b2100000a810000648914100000020001002680000724000022fffffe0000000001290000000000000001ffff00000000040000002020000080000840") ++ zeros 16 ++ bytes (codes "1000001b21000001") ++ zeros 32 ++ (128 ∷ []) ++ zeros 47 ++ bytes (codes "0202000000000000")); whole = true }

-- 1300 1 3 rejected 03 00
abbrev pub entry7 : Event
entry7 = Frame 1 3 frame7 (Rejected 0x03 0x00)

pub entry7_is_right : verdicts.IsRight C (state.tables_of C J7) 1 frame7 (Rejected 0x03 0x00)
unfolding eth.decoded fc.decoded reading.decoded heard.carried heard.is_flogi heard.decoded capsule.decoded crc.crc crc.remainder els.decoded ct.decoded zones.joined rules.rule_for verdicts.judged
entry7_is_right = refl

abbrev pub J8 : Journal
J8 = entry7 ∷ J7

-- 1400 tick
abbrev pub entry8 : Event
entry8 = Tick 1400 []

abbrev pub J9 : Journal
J9 = entry8 ∷ J8

abbrev pub frame9 : Caught
frame9 = record { bytes = (bytes (codes "00051e000002001b2100000a810000648914100000020001002680000724000022fffffe0000000001290000000000000001ffff00000000040000002020000000000840") ++ zeros 8 ++ bytes (codes "2000001b2100000a1000001b21000001") ++ zeros 32 ++ (128 ∷ []) ++ zeros 47 ++ bytes (codes "0202000000000000")); whole = true }

-- 1400 1 4 granted 010100
abbrev pub entry9 : Event
entry9 = Frame 1 4 frame9 (Granted 0x010100)

pub entry9_is_right : verdicts.IsRight C (state.tables_of C J9) 1 frame9 (Granted 0x010100)
unfolding eth.decoded fc.decoded reading.decoded heard.carried heard.is_flogi heard.decoded capsule.decoded crc.crc crc.remainder els.decoded ct.decoded zones.joined rules.rule_for verdicts.judged
entry9_is_right = refl

-- the addresses that may be granted
pub free_at_entry9 : filter (free.is_free (state.tables_of C J9) (record { flogi = true; enode = record { port = 1; mac = bytes (codes "001b2100000a") }; name = 0x2000001b2100000a })) (counting 0x10100 4) ≡ 0x10100 ∷ 0x10101 ∷ 0x10102 ∷ 0x10103 ∷ []
unfolding eth.decoded fc.decoded reading.decoded heard.carried heard.is_flogi
free_at_entry9 = refl

abbrev pub J10 : Journal
J10 = entry9 ∷ J9

-- 1500 tick
abbrev pub entry10 : Event
entry10 = Tick 1500 []

abbrev pub J11 : Journal
J11 = entry10 ∷ J10

abbrev pub frame11 : Caught
frame11 = record { bytes = (bytes (codes "00051e000002001b2100000a810000648914100000020001002680000824000022fffffe0000000001290000000000000001ffff00000000510000002020000080000840") ++ zeros 8 ++ bytes (codes "2000001b2100000a1000001b21000001") ++ zeros 32 ++ (128 ∷ []) ++ zeros 47 ++ bytes (codes "0202000000000000")); whole = true }

-- 1500 1 5 rejected 03 00
abbrev pub entry11 : Event
entry11 = Frame 1 5 frame11 (Rejected 0x03 0x00)

pub entry11_is_right : verdicts.IsRight C (state.tables_of C J11) 1 frame11 (Rejected 0x03 0x00)
unfolding eth.decoded fc.decoded reading.decoded heard.carried heard.is_flogi heard.decoded capsule.decoded crc.crc crc.remainder els.decoded ct.decoded zones.joined rules.rule_for verdicts.judged
entry11_is_right = refl

abbrev pub J12 : Journal
J12 = entry11 ∷ J11

-- 1600 tick
abbrev pub entry12 : Event
entry12 = Tick 1600 []

abbrev pub J13 : Journal
J13 = entry12 ∷ J12

abbrev pub frame13 : Caught
frame13 = record { bytes = (bytes (codes "00051e000002001b2100000a810000648914100000020001002680000824000022fffffe0000000001290000000000000001ffff00000000510000002020000080000840") ++ zeros 8 ++ bytes (codes "2000001b2100000b1000001b21000001") ++ zeros 32 ++ (128 ∷ []) ++ zeros 47 ++ bytes (codes "0202000000000000")); whole = true }

-- 1600 1 6 granted 010101
abbrev pub entry13 : Event
entry13 = Frame 1 6 frame13 (Granted 0x010101)

pub entry13_is_right : verdicts.IsRight C (state.tables_of C J13) 1 frame13 (Granted 0x010101)
unfolding eth.decoded fc.decoded reading.decoded heard.carried heard.is_flogi heard.decoded capsule.decoded crc.crc crc.remainder els.decoded ct.decoded zones.joined rules.rule_for verdicts.judged
entry13_is_right = refl

-- the addresses that may be granted
pub free_at_entry13 : filter (free.is_free (state.tables_of C J13) (record { flogi = false; enode = record { port = 1; mac = bytes (codes "001b2100000a") }; name = 0x2000001b2100000b })) (counting 0x10100 4) ≡ 0x10101 ∷ 0x10102 ∷ 0x10103 ∷ []
unfolding eth.decoded fc.decoded reading.decoded heard.carried heard.is_flogi
free_at_entry13 = refl

abbrev pub J14 : Journal
J14 = entry13 ∷ J13

-- 1700 tick
abbrev pub entry14 : Event
entry14 = Tick 1700 []

abbrev pub J15 : Journal
J15 = entry14 ∷ J14

abbrev pub frame15 : Caught
frame15 = record { bytes = (bytes (codes "00051e000002001b2100000a810000648914100000020001002680000824000022fffffe0000000001290000000000000001ffff00000000510000002020000080000840") ++ zeros 8 ++ bytes (codes "2000001b2100000d1000001b21000001") ++ zeros 32 ++ (128 ∷ []) ++ zeros 47 ++ bytes (codes "0202000000000000")); whole = true }

-- 1700 2 0 rejected 09 00
abbrev pub entry15 : Event
entry15 = Frame 2 0 frame15 (Rejected 0x09 0x00)

pub entry15_is_right : verdicts.IsRight C (state.tables_of C J15) 2 frame15 (Rejected 0x09 0x00)
unfolding eth.decoded fc.decoded reading.decoded heard.carried heard.is_flogi heard.decoded capsule.decoded crc.crc crc.remainder els.decoded ct.decoded zones.joined rules.rule_for verdicts.judged
entry15_is_right = refl

abbrev pub J16 : Journal
J16 = entry15 ∷ J15

-- 1800 tick
abbrev pub entry16 : Event
entry16 = Tick 1800 []

abbrev pub J17 : Journal
J17 = entry16 ∷ J16

abbrev pub frame17 : Caught
frame17 = record { bytes = (bytes (codes "00051e000002001b2100000b810000648914100000020001002680000724000022fffffe0000000001290000000000000001ffff00000000040000002020000080000840") ++ zeros 8 ++ bytes (codes "2000001b2100000a1000001b21000001") ++ zeros 32 ++ (128 ∷ []) ++ zeros 47 ++ bytes (codes "0202000000000000")); whole = true }

-- 1800 2 1 rejected 03 00
abbrev pub entry17 : Event
entry17 = Frame 2 1 frame17 (Rejected 0x03 0x00)

pub entry17_is_right : verdicts.IsRight C (state.tables_of C J17) 2 frame17 (Rejected 0x03 0x00)
unfolding eth.decoded fc.decoded reading.decoded heard.carried heard.is_flogi heard.decoded capsule.decoded crc.crc crc.remainder els.decoded ct.decoded zones.joined rules.rule_for verdicts.judged
entry17_is_right = refl

abbrev pub J18 : Journal
J18 = entry17 ∷ J17

-- 1900 tick
abbrev pub entry18 : Event
entry18 = Tick 1900 []

abbrev pub J19 : Journal
J19 = entry18 ∷ J18

abbrev pub frame19 : Caught
frame19 = record { bytes = (bytes (codes "00051e000002001b2100000b810000648914100000020001002680000724000022fffffe0000000001290000000000000001ffff00000000040000002020000080000840") ++ zeros 8 ++ bytes (codes "2000001b2100000c1000001b21000001") ++ zeros 32 ++ (128 ∷ []) ++ zeros 47 ++ bytes (codes "0202000000000000")); whole = true }

-- 1900 2 2 granted 010102
abbrev pub entry19 : Event
entry19 = Frame 2 2 frame19 (Granted 0x010102)

pub entry19_is_right : verdicts.IsRight C (state.tables_of C J19) 2 frame19 (Granted 0x010102)
unfolding eth.decoded fc.decoded reading.decoded heard.carried heard.is_flogi heard.decoded capsule.decoded crc.crc crc.remainder els.decoded ct.decoded zones.joined rules.rule_for verdicts.judged
entry19_is_right = refl

-- the addresses that may be granted
pub free_at_entry19 : filter (free.is_free (state.tables_of C J19) (record { flogi = true; enode = record { port = 2; mac = bytes (codes "001b2100000b") }; name = 0x2000001b2100000c })) (counting 0x10100 4) ≡ 0x10102 ∷ 0x10103 ∷ []
unfolding eth.decoded fc.decoded reading.decoded heard.carried heard.is_flogi
free_at_entry19 = refl

abbrev pub J20 : Journal
J20 = entry19 ∷ J19

-- 2000 tick
abbrev pub entry20 : Event
entry20 = Tick 2000 []

abbrev pub J21 : Journal
J21 = entry20 ∷ J20

abbrev pub frame21 : Caught
frame21 = record { bytes = (bytes (codes "00051e000002001b2100000c810000648914100000020001002680000724000022fffffe0000000001290000000000000001ffff00000000040000002020000080000840") ++ zeros 8 ++ bytes (codes "2000001b2100000d1000001b21000001") ++ zeros 32 ++ (128 ∷ []) ++ zeros 47 ++ bytes (codes "0202000000000000")); whole = true }

-- 2000 3 0 rejected 09 29
abbrev pub entry21 : Event
entry21 = Frame 3 0 frame21 (Rejected 0x09 0x29)

pub entry21_is_right : verdicts.IsRight C (state.tables_of C J21) 3 frame21 (Rejected 0x09 0x29)
unfolding eth.decoded fc.decoded reading.decoded heard.carried heard.is_flogi heard.decoded capsule.decoded crc.crc crc.remainder els.decoded ct.decoded zones.joined rules.rule_for verdicts.judged
entry21_is_right = refl

abbrev pub J22 : Journal
J22 = entry21 ∷ J21

pub sent_at_entry0_on_port1 : map (λ s. s.bytes) (filter (λ s. s.port == 1) (outs.outputs_by C 3 (record { tables = state.tables_of C J0; advertised = outs.advertised_at C J0; rscns = 0 }) (state.tables_of C J1) entry0 ++ outs.outputs_by C 3 (record { tables = state.tables_of C J1; advertised = outs.advertised_at C J1; rscns = 0 }) (state.tables_of C J2) entry1)) ≡ bytes (codes "001b2100000a00051e00000281006064891410000002000200098000080900002300000000fffffe01980000000000000001ffff0000000001000000000b2c00") ∷ []
unfolding eth.decoded fc.decoded reading.decoded heard.carried heard.is_flogi capsule.written crc.crc crc.remainder fip.written els.written ct.decoded answer.written zones.joined server.query server.feature_word server.feature_words outs.notices outs.outputs_by
sent_at_entry0_on_port1 = refl

pub sent_at_entry2_on_port1 : map (λ s. s.bytes) (filter (λ s. s.port == 1) (outs.outputs_by C 3 (record { tables = state.tables_of C J2; advertised = outs.advertised_at C J2; rscns = 0 }) (state.tables_of C J3) entry2 ++ outs.outputs_by C 3 (record { tables = state.tables_of C J3; advertised = outs.advertised_at C J3; rscns = 0 }) (state.tables_of C J4) entry3)) ≡ bytes (codes "001b2100000a00051e00000281006064891410000002000200098000070900002300000000fffffe01980000000000000001ffff0000000001000000000b2c00") ∷ []
unfolding eth.decoded fc.decoded reading.decoded heard.carried heard.is_flogi capsule.written crc.crc crc.remainder fip.written els.written ct.decoded answer.written zones.joined server.query server.feature_word server.feature_words outs.notices outs.outputs_by
sent_at_entry2_on_port1 = refl

pub sent_at_entry4_on_port1 : map (λ s. s.bytes) (filter (λ s. s.port == 1) (outs.outputs_by C 3 (record { tables = state.tables_of C J4; advertised = outs.advertised_at C J4; rscns = 0 }) (state.tables_of C J5) entry4 ++ outs.outputs_by C 3 (record { tables = state.tables_of C J5; advertised = outs.advertised_at C J5; rscns = 0 }) (state.tables_of C J6) entry5)) ≡ bytes (codes "001b2100000a00051e00000281006064891410000002000200098000070900002300000000fffffe01980000000000000001ffff0000000001000000000b0000") ∷ []
unfolding eth.decoded fc.decoded reading.decoded heard.carried heard.is_flogi capsule.written crc.crc crc.remainder fip.written els.written ct.decoded answer.written zones.joined server.query server.feature_word server.feature_words outs.notices outs.outputs_by
sent_at_entry4_on_port1 = refl

pub sent_at_entry6_on_port1 : map (λ s. s.bytes) (filter (λ s. s.port == 1) (outs.outputs_by C 3 (record { tables = state.tables_of C J6; advertised = outs.advertised_at C J6; rscns = 0 }) (state.tables_of C J7) entry6 ++ outs.outputs_by C 3 (record { tables = state.tables_of C J7; advertised = outs.advertised_at C J7; rscns = 0 }) (state.tables_of C J8) entry7)) ≡ bytes (codes "001b2100000a00051e00000281006064891410000002000200098000070900002300000000fffffe01980000000000000001ffff000000000100000000030000") ∷ []
unfolding eth.decoded fc.decoded reading.decoded heard.carried heard.is_flogi capsule.written crc.crc crc.remainder fip.written els.written ct.decoded answer.written zones.joined server.query server.feature_word server.feature_words outs.notices outs.outputs_by
sent_at_entry6_on_port1 = refl

pub sent_at_entry8_on_port1 : map (λ s. s.bytes) (filter (λ s. s.port == 1) (outs.outputs_by C 3 (record { tables = state.tables_of C J8; advertised = outs.advertised_at C J8; rscns = 0 }) (state.tables_of C J9) entry8 ++ outs.outputs_by C 3 (record { tables = state.tables_of C J9; advertised = outs.advertised_at C J9; rscns = 0 }) (state.tables_of C J10) entry9)) ≡ (bytes (codes "001b2100000a00051e00000281006064891410000002000200268000072400002301010000fffffe01980000000000000001ffff0000000002000000202000001000084000002710000007d0200100051e000002100000051e000002") ++ zeros 32 ++ (136 ∷ []) ++ zeros 47 ++ bytes (codes "02020efc00010100")) ∷ []
unfolding eth.decoded fc.decoded reading.decoded heard.carried heard.is_flogi capsule.written crc.crc crc.remainder fip.written els.written ct.decoded answer.written zones.joined server.query server.feature_word server.feature_words outs.notices outs.outputs_by
sent_at_entry8_on_port1 = refl

pub sent_at_entry10_on_port1 : map (λ s. s.bytes) (filter (λ s. s.port == 1) (outs.outputs_by C 3 (record { tables = state.tables_of C J10; advertised = outs.advertised_at C J10; rscns = 0 }) (state.tables_of C J11) entry10 ++ outs.outputs_by C 3 (record { tables = state.tables_of C J11; advertised = outs.advertised_at C J11; rscns = 0 }) (state.tables_of C J12) entry11)) ≡ bytes (codes "001b2100000a00051e00000281006064891410000002000200098000080900002300000000fffffe01980000000000000001ffff000000000100000000030000") ∷ []
unfolding eth.decoded fc.decoded reading.decoded heard.carried heard.is_flogi capsule.written crc.crc crc.remainder fip.written els.written ct.decoded answer.written zones.joined server.query server.feature_word server.feature_words outs.notices outs.outputs_by
sent_at_entry10_on_port1 = refl

pub sent_at_entry12_on_port1 : map (λ s. s.bytes) (filter (λ s. s.port == 1) (outs.outputs_by C 3 (record { tables = state.tables_of C J12; advertised = outs.advertised_at C J12; rscns = 0 }) (state.tables_of C J13) entry12 ++ outs.outputs_by C 3 (record { tables = state.tables_of C J13; advertised = outs.advertised_at C J13; rscns = 0 }) (state.tables_of C J14) entry13)) ≡ (bytes (codes "001b2100000a00051e00000281006064891410000002000200268000082400002301010100fffffe01980000000000000001ffff0000000002000000202000003000084000002710000007d0200100051e000002100000051e000002") ++ zeros 32 ++ (136 ∷ []) ++ zeros 47 ++ bytes (codes "02020efc00010101")) ∷ []
unfolding eth.decoded fc.decoded reading.decoded heard.carried heard.is_flogi capsule.written crc.crc crc.remainder fip.written els.written ct.decoded answer.written zones.joined server.query server.feature_word server.feature_words outs.notices outs.outputs_by
sent_at_entry12_on_port1 = refl

pub sent_at_entry14_on_port1 : map (λ s. s.bytes) (filter (λ s. s.port == 1) (outs.outputs_by C 3 (record { tables = state.tables_of C J14; advertised = outs.advertised_at C J14; rscns = 0 }) (state.tables_of C J15) entry14 ++ outs.outputs_by C 3 (record { tables = state.tables_of C J15; advertised = outs.advertised_at C J15; rscns = 0 }) (state.tables_of C J16) entry15)) ≡ []
unfolding eth.decoded fc.decoded reading.decoded heard.carried heard.is_flogi capsule.written crc.crc crc.remainder fip.written els.written ct.decoded answer.written zones.joined server.query server.feature_word server.feature_words outs.notices outs.outputs_by
sent_at_entry14_on_port1 = refl

pub sent_at_entry14_on_port2 : map (λ s. s.bytes) (filter (λ s. s.port == 2) (outs.outputs_by C 3 (record { tables = state.tables_of C J14; advertised = outs.advertised_at C J14; rscns = 0 }) (state.tables_of C J15) entry14 ++ outs.outputs_by C 3 (record { tables = state.tables_of C J15; advertised = outs.advertised_at C J15; rscns = 0 }) (state.tables_of C J16) entry15)) ≡ bytes (codes "001b2100000a00051e00000281006064891410000002000200098000080900002300000000fffffe01980000000000000001ffff000000000100000000090000") ∷ []
unfolding eth.decoded fc.decoded reading.decoded heard.carried heard.is_flogi capsule.written crc.crc crc.remainder fip.written els.written ct.decoded answer.written zones.joined server.query server.feature_word server.feature_words outs.notices outs.outputs_by
sent_at_entry14_on_port2 = refl

pub sent_at_entry16_on_port1 : map (λ s. s.bytes) (filter (λ s. s.port == 1) (outs.outputs_by C 3 (record { tables = state.tables_of C J16; advertised = outs.advertised_at C J16; rscns = 0 }) (state.tables_of C J17) entry16 ++ outs.outputs_by C 3 (record { tables = state.tables_of C J17; advertised = outs.advertised_at C J17; rscns = 0 }) (state.tables_of C J18) entry17)) ≡ []
unfolding eth.decoded fc.decoded reading.decoded heard.carried heard.is_flogi capsule.written crc.crc crc.remainder fip.written els.written ct.decoded answer.written zones.joined server.query server.feature_word server.feature_words outs.notices outs.outputs_by
sent_at_entry16_on_port1 = refl

pub sent_at_entry16_on_port2 : map (λ s. s.bytes) (filter (λ s. s.port == 2) (outs.outputs_by C 3 (record { tables = state.tables_of C J16; advertised = outs.advertised_at C J16; rscns = 0 }) (state.tables_of C J17) entry16 ++ outs.outputs_by C 3 (record { tables = state.tables_of C J17; advertised = outs.advertised_at C J17; rscns = 0 }) (state.tables_of C J18) entry17)) ≡ bytes (codes "001b2100000b00051e00000281006064891410000002000200098000070900002300000000fffffe01980000000000000001ffff000000000100000000030000") ∷ []
unfolding eth.decoded fc.decoded reading.decoded heard.carried heard.is_flogi capsule.written crc.crc crc.remainder fip.written els.written ct.decoded answer.written zones.joined server.query server.feature_word server.feature_words outs.notices outs.outputs_by
sent_at_entry16_on_port2 = refl

pub sent_at_entry18_on_port1 : map (λ s. s.bytes) (filter (λ s. s.port == 1) (outs.outputs_by C 3 (record { tables = state.tables_of C J18; advertised = outs.advertised_at C J18; rscns = 0 }) (state.tables_of C J19) entry18 ++ outs.outputs_by C 3 (record { tables = state.tables_of C J19; advertised = outs.advertised_at C J19; rscns = 0 }) (state.tables_of C J20) entry19)) ≡ []
unfolding eth.decoded fc.decoded reading.decoded heard.carried heard.is_flogi capsule.written crc.crc crc.remainder fip.written els.written ct.decoded answer.written zones.joined server.query server.feature_word server.feature_words outs.notices outs.outputs_by
sent_at_entry18_on_port1 = refl

pub sent_at_entry18_on_port2 : map (λ s. s.bytes) (filter (λ s. s.port == 2) (outs.outputs_by C 3 (record { tables = state.tables_of C J18; advertised = outs.advertised_at C J18; rscns = 0 }) (state.tables_of C J19) entry18 ++ outs.outputs_by C 3 (record { tables = state.tables_of C J19; advertised = outs.advertised_at C J19; rscns = 0 }) (state.tables_of C J20) entry19)) ≡ (bytes (codes "001b2100000b00051e00000281006064891410000002000200268000072400002301010200fffffe01980000000000000001ffff0000000002000000202000003000084000002710000007d0200200051e000002100000051e000002") ++ zeros 32 ++ (136 ∷ []) ++ zeros 47 ++ bytes (codes "02020efc00010102")) ∷ []
unfolding eth.decoded fc.decoded reading.decoded heard.carried heard.is_flogi capsule.written crc.crc crc.remainder fip.written els.written ct.decoded answer.written zones.joined server.query server.feature_word server.feature_words outs.notices outs.outputs_by
sent_at_entry18_on_port2 = refl

pub sent_at_entry20_on_port1 : map (λ s. s.bytes) (filter (λ s. s.port == 1) (outs.outputs_by C 3 (record { tables = state.tables_of C J20; advertised = outs.advertised_at C J20; rscns = 0 }) (state.tables_of C J21) entry20 ++ outs.outputs_by C 3 (record { tables = state.tables_of C J21; advertised = outs.advertised_at C J21; rscns = 0 }) (state.tables_of C J22) entry21)) ≡ []
unfolding eth.decoded fc.decoded reading.decoded heard.carried heard.is_flogi capsule.written crc.crc crc.remainder fip.written els.written ct.decoded answer.written zones.joined server.query server.feature_word server.feature_words outs.notices outs.outputs_by
sent_at_entry20_on_port1 = refl

pub sent_at_entry20_on_port3 : map (λ s. s.bytes) (filter (λ s. s.port == 3) (outs.outputs_by C 3 (record { tables = state.tables_of C J20; advertised = outs.advertised_at C J20; rscns = 0 }) (state.tables_of C J21) entry20 ++ outs.outputs_by C 3 (record { tables = state.tables_of C J21; advertised = outs.advertised_at C J21; rscns = 0 }) (state.tables_of C J22) entry21)) ≡ bytes (codes "001b2100000c00051e00000281006064891410000002000200098000070900002300000000fffffe01980000000000000001ffff000000000100000000092900") ∷ []
unfolding eth.decoded fc.decoded reading.decoded heard.carried heard.is_flogi capsule.written crc.crc crc.remainder fip.written els.written ct.decoded answer.written zones.joined server.query server.feature_word server.feature_words outs.notices outs.outputs_by
sent_at_entry20_on_port3 = refl

pub logins_at_the_end : map {B = List ℕ} (λ p. p.address ∷ p.name ∷ p.values.node_name ∷ p.enode.port ∷ p.node_heard ∷ p.port_heard ∷ unwrap_or p.server 0 ∷ p.watch ∷ []) (state.tables_of C J22).ports ≡ (0x010100 ∷ 0x2000001b2100000a ∷ 0x1000001b21000001 ∷ 1 ∷ 1600 ∷ 1400 ∷ 0 ∷ 0 ∷ []) ∷ (0x010101 ∷ 0x2000001b2100000b ∷ 0x1000001b21000001 ∷ 1 ∷ 1600 ∷ 1600 ∷ 0 ∷ 0 ∷ []) ∷ (0x010102 ∷ 0x2000001b2100000c ∷ 0x1000001b21000001 ∷ 2 ∷ 1900 ∷ 1900 ∷ 0 ∷ 0 ∷ []) ∷ []
unfolding eth.decoded fc.decoded reading.decoded heard.carried heard.is_flogi ct.decoded
logins_at_the_end = refl

pub type_maps : map {B = List ℕ} (λ p. p.values.types.0) (state.tables_of C J22).ports ≡ (0x00000000 ∷ 0x00000000 ∷ 0x00000000 ∷ 0x00000000 ∷ 0x00000000 ∷ 0x00000000 ∷ 0x00000000 ∷ 0x00000000 ∷ []) ∷ (0x00000000 ∷ 0x00000000 ∷ 0x00000000 ∷ 0x00000000 ∷ 0x00000000 ∷ 0x00000000 ∷ 0x00000000 ∷ 0x00000000 ∷ []) ∷ (0x00000000 ∷ 0x00000000 ∷ 0x00000000 ∷ 0x00000000 ∷ 0x00000000 ∷ 0x00000000 ∷ 0x00000000 ∷ 0x00000000 ∷ []) ∷ []
unfolding eth.decoded fc.decoded reading.decoded heard.carried heard.is_flogi ct.decoded
type_maps = refl

pub lines : text.text J22 ≡ codes "journal 2\n1000 tick\n1000 1 0 rejected 0b 2c\n1100 tick\n1100 1 1 rejected 0b 2c\n1200 tick\n1200 1 2 rejected 0b 00\n1300 tick\n1300 1 3 rejected 03 00\n1400 tick\n1400 1 4 granted 010100\n1500 tick\n1500 1 5 rejected 03 00\n1600 tick\n1600 1 6 granted 010101\n1700 tick\n1700 2 0 rejected 09 00\n1800 tick\n1800 2 1 rejected 03 00\n1900 tick\n1900 2 2 granted 010102\n2000 tick\n2000 3 0 rejected 09 29\n"
unfolding text.text fmt.digits
lines = refl
