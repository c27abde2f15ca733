-- What an erased registration puts back.
use Rattle.std.specs.Prelude.{◌≡◌, ℕ, ◌==◌, unwrap_or, true, List, [], ◌∷◌, ◌++◌, refl, map, filter, codes}
use Rattle.fab_base.specs.declared.values.Caught.{Caught}
use Rattle.fab_config.specs.Settings.{Settings}
use Rattle.fab_policy.specs.State as state
use Rattle.fab_policy.specs.Verdicts as verdicts
use Rattle.ct_messages.specs.Server as server
use Rattle.fab_policy.specs.Rules as rules
use Rattle.heard_frames.specs.Heard as heard
use Rattle.fab_policy.specs.Outputs as outs
use Rattle.fab_policy.specs.declared.event.Event.{Event}
use Rattle.fab_policy.specs.declared.event.Event.TheVariants.{Tick, Frame}
use Rattle.fab_policy.specs.declared.verdict.Verdict.TheVariants.{Granted, NsLogin, Registered, Answered, Refused}
use Rattle.eth_frames.specs.Ethernet as eth
use Rattle.fc_check.specs.Crc as crc
use Rattle.fc_frames.specs.Frame as fc
use Rattle.fcoe_codec.specs.Fcoe as capsule
use Rattle.fip_codec.specs.Message as fip
use Rattle.fip_codec.specs.Reading as reading
use Rattle.els_messages.specs.Els as els
use Rattle.ct_messages.specs.Ct as ct
use Rattle.ct_messages.specs.Answer as answer
use Rattle.zone_rules.specs.Joined as zones
use Rattle.std.specs.Fmt as fmt
use Rattle.fab_policy.specs.Journal.{Journal}
use Rattle.fab_policy.specs.Text as text
use Rattle.fab_base.specs.Layout.{zeros}
use Rattle.examples.specs.Given.{bytes}

abbrev pub C : Settings
C = record { switch = 0x100000051e000002; fcf_mac = bytes (codes "00051e000002"); fc_map = 0xefc00; vlan = 100; domain = 1; pool = 3; priority = 128; period = 8000; window = 100; limit = 240; zones = record { name = codes "z"; members = 0x2000001b2100000a ∷ 0x2000001b2100000b ∷ 0x2000001b2100000c ∷ [] } ∷ record { name = codes "y"; members = 0x2000001b2100000b ∷ 0x2000001b2100000d ∷ [] } ∷ []; sets = []; activations = [] }

abbrev pub J0 : Journal
J0 = []

-- 1000 tick
abbrev pub entry0 : Event
entry0 = Tick 1000 []

abbrev pub J1 : Journal
J1 = entry0 ∷ J0

abbrev pub frame1 : Caught
frame1 = record { bytes = (bytes (codes "00051e000002001b2100000a810000648914100000020001002680000724000022fffffe0000000001290000000000000001ffff00000000040000002020000080000840") ++ zeros 8 ++ bytes (codes "2000001b2100000a1000001b21000001") ++ zeros 32 ++ (128 ∷ []) ++ zeros 47 ++ bytes (codes "0202000000000000")); whole = true }

-- 1000 1 0 granted 010100
abbrev pub entry1 : Event
entry1 = Frame 1 0 frame1 (Granted 0x010100)

pub entry1_is_right : verdicts.IsRight C (state.tables_of C J1) 1 frame1 (Granted 0x010100)
unfolding eth.decoded fc.decoded reading.decoded heard.carried heard.is_flogi heard.decoded capsule.decoded crc.crc crc.remainder els.decoded ct.decoded zones.joined rules.rule_for verdicts.judged
entry1_is_right = refl

abbrev pub J2 : Journal
J2 = entry1 ∷ J1

-- 1100 tick
abbrev pub entry2 : Event
entry2 = Tick 1100 []

abbrev pub J3 : Journal
J3 = entry2 ∷ J2

abbrev pub frame3 : Caught
frame3 = record { bytes = (bytes (codes "00051e0000020efc00010100810000648906") ++ zeros 13 ++ bytes (codes "2e22fffffc0001010001290000000000000009ffff00000000030000002020000000000840") ++ zeros 8 ++ bytes (codes "2000001b2100000a1000001b21000001") ++ zeros 32 ++ (128 ∷ []) ++ zeros 47 ++ bytes (codes "0ee0feaf42000000")); whole = true }

-- 1100 1 1 ns-login
abbrev pub entry3 : Event
entry3 = Frame 1 1 frame3 NsLogin

pub entry3_is_right : verdicts.IsRight C (state.tables_of C J3) 1 frame3 NsLogin
unfolding eth.decoded fc.decoded reading.decoded heard.carried heard.is_flogi heard.decoded capsule.decoded crc.crc crc.remainder els.decoded ct.decoded zones.joined rules.rule_for verdicts.judged
entry3_is_right = refl

abbrev pub J4 : Journal
J4 = entry3 ∷ J3

abbrev pub frame4 : Caught
frame4 = record { bytes = (bytes (codes "00051e0000020efc00010100810000648906") ++ zeros 13 ++ bytes (codes "2e02fffffc0001010020290000000000000213ffff0000000001000000fc0200000213000000000000000101") ++ zeros 8 ++ bytes (codes "77163eb42142000000")); whole = true }

-- 1100 1 2 registered
abbrev pub entry4 : Event
entry4 = Frame 1 2 frame4 Registered

pub entry4_is_right : verdicts.IsRight C (state.tables_of C J4) 1 frame4 Registered
unfolding eth.decoded fc.decoded reading.decoded heard.carried heard.is_flogi heard.decoded capsule.decoded crc.crc crc.remainder els.decoded ct.decoded zones.joined rules.rule_for verdicts.judged
entry4_is_right = refl

abbrev pub J5 : Journal
J5 = entry4 ∷ J4

abbrev pub frame5 : Caught
frame5 = record { bytes = (bytes (codes "00051e0000020efc00010100810000648906") ++ zeros 13 ++ bytes (codes "2e02fffffc000101002029000000000000021fffff0000000001000000fc020000021f0000000000000001010000001f088f40b14a42000000")); whole = true }

-- 1100 1 3 registered
abbrev pub entry5 : Event
entry5 = Frame 1 3 frame5 Registered

pub entry5_is_right : verdicts.IsRight C (state.tables_of C J5) 1 frame5 Registered
unfolding eth.decoded fc.decoded reading.decoded heard.carried heard.is_flogi heard.decoded capsule.decoded crc.crc crc.remainder els.decoded ct.decoded zones.joined rules.rule_for verdicts.judged
entry5_is_right = refl

abbrev pub J6 : Journal
J6 = entry5 ∷ J5

abbrev pub frame6 : Caught
frame6 = record { bytes = (bytes (codes "00051e0000020efc00010100810000648906") ++ zeros 13 ++ bytes (codes "2e02fffffc000101002029000000000000021fffff0000000001000000fc020000021f0000000000000001010000000209051cdac242000000")); whole = true }

-- 1100 1 4 registered
abbrev pub entry6 : Event
entry6 = Frame 1 4 frame6 Registered

pub entry6_is_right : verdicts.IsRight C (state.tables_of C J6) 1 frame6 Registered
unfolding eth.decoded fc.decoded reading.decoded heard.carried heard.is_flogi heard.decoded capsule.decoded crc.crc crc.remainder els.decoded ct.decoded zones.joined rules.rule_for verdicts.judged
entry6_is_right = refl

abbrev pub J7 : Journal
J7 = entry6 ∷ J6

abbrev pub frame7 : Caught
frame7 = record { bytes = (bytes (codes "00051e0000020efc00010100810000648906") ++ zeros 13 ++ bytes (codes "2e02fffffc0001010020290000000000000217ffff0000000001000000fc020000021700000000000000010100000001") ++ zeros 29 ++ bytes (codes "0dd11ea042000000")); whole = true }

-- 1100 1 5 registered
abbrev pub entry7 : Event
entry7 = Frame 1 5 frame7 Registered

pub entry7_is_right : verdicts.IsRight C (state.tables_of C J7) 1 frame7 Registered
unfolding eth.decoded fc.decoded reading.decoded heard.carried heard.is_flogi heard.decoded capsule.decoded crc.crc crc.remainder els.decoded ct.decoded zones.joined rules.rule_for verdicts.judged
entry7_is_right = refl

abbrev pub J8 : Journal
J8 = entry7 ∷ J7

abbrev pub frame8 : Caught
frame8 = record { bytes = (bytes (codes "00051e0000020efc00010100810000648906") ++ zeros 13 ++ bytes (codes "2e02fffffc0001010020290000000000000218ffff0000000001000000fc02000002180000000000000001010003616263306456e242000000")); whole = true }

-- 1100 1 6 registered
abbrev pub entry8 : Event
entry8 = Frame 1 6 frame8 Registered

pub entry8_is_right : verdicts.IsRight C (state.tables_of C J8) 1 frame8 Registered
unfolding eth.decoded fc.decoded reading.decoded heard.carried heard.is_flogi heard.decoded capsule.decoded crc.crc crc.remainder els.decoded ct.decoded zones.joined rules.rule_for verdicts.judged
entry8_is_right = refl

abbrev pub J9 : Journal
J9 = entry8 ∷ J8

abbrev pub frame9 : Caught
frame9 = record { bytes = (bytes (codes "00051e0000020efc00010100810000648906") ++ zeros 13 ++ bytes (codes "2e02fffffc000101002029000000000000011fffff0000000001000000fc020000011f000000000000000101000ad2a9a042000000")); whole = true }

-- 1100 1 7 answered
abbrev pub entry9 : Event
entry9 = Frame 1 7 frame9 Answered

pub entry9_is_right : verdicts.IsRight C (state.tables_of C J9) 1 frame9 Answered
unfolding eth.decoded fc.decoded reading.decoded heard.carried heard.is_flogi heard.decoded capsule.decoded crc.crc crc.remainder els.decoded ct.decoded zones.joined rules.rule_for verdicts.judged
entry9_is_right = refl

abbrev pub J10 : Journal
J10 = entry9 ∷ J9

abbrev pub frame10 : Caught
frame10 = record { bytes = (bytes (codes "00051e0000020efc00010100810000648906") ++ zeros 13 ++ bytes (codes "2e02fffffc0001010020290000000000000300ffff0000000001000000fc02000003") ++ zeros 8 ++ bytes (codes "010100fbbdd43c42000000")); whole = true }

-- 1100 1 8 registered
abbrev pub entry10 : Event
entry10 = Frame 1 8 frame10 Registered

pub entry10_is_right : verdicts.IsRight C (state.tables_of C J10) 1 frame10 Registered
unfolding eth.decoded fc.decoded reading.decoded heard.carried heard.is_flogi heard.decoded capsule.decoded crc.crc crc.remainder els.decoded ct.decoded zones.joined rules.rule_for verdicts.judged
entry10_is_right = refl

abbrev pub J11 : Journal
J11 = entry10 ∷ J10

abbrev pub frame11 : Caught
frame11 = record { bytes = (bytes (codes "00051e0000020efc00010100810000648906") ++ zeros 13 ++ bytes (codes "2e02fffffc0001010020290000000000000113ffff0000000001000000fc02000001130000000000000001010002fd700942000000")); whole = true }

-- 1100 1 9 answered
abbrev pub entry11 : Event
entry11 = Frame 1 9 frame11 Answered

pub entry11_is_right : verdicts.IsRight C (state.tables_of C J11) 1 frame11 Answered
unfolding eth.decoded fc.decoded reading.decoded heard.carried heard.is_flogi heard.decoded capsule.decoded crc.crc crc.remainder els.decoded ct.decoded zones.joined rules.rule_for verdicts.judged
entry11_is_right = refl

abbrev pub J12 : Journal
J12 = entry11 ∷ J11

abbrev pub frame12 : Caught
frame12 = record { bytes = (bytes (codes "00051e0000020efc00010100810000648906") ++ zeros 13 ++ bytes (codes "2e02fffffc000101002029000000000000011fffff0000000001000000fc020000011f000000000000000101000ad2a9a042000000")); whole = true }

-- 1100 1 10 answered
abbrev pub entry12 : Event
entry12 = Frame 1 10 frame12 Answered

pub entry12_is_right : verdicts.IsRight C (state.tables_of C J12) 1 frame12 Answered
unfolding eth.decoded fc.decoded reading.decoded heard.carried heard.is_flogi heard.decoded capsule.decoded crc.crc crc.remainder els.decoded ct.decoded zones.joined rules.rule_for verdicts.judged
entry12_is_right = refl

abbrev pub J13 : Journal
J13 = entry12 ∷ J12

abbrev pub frame13 : Caught
frame13 = record { bytes = (bytes (codes "00051e0000020efc00010100810000648906") ++ zeros 13 ++ bytes (codes "2e02fffffc0001010020290000000000000117ffff0000000001000000fc020000011700000000000000010100c5e5e8d842000000")); whole = true }

-- 1100 1 11 refused 09 07
abbrev pub entry13 : Event
entry13 = Frame 1 11 frame13 (Refused 0x09 0x07)

pub entry13_is_right : verdicts.IsRight C (state.tables_of C J13) 1 frame13 (Refused 0x09 0x07)
unfolding eth.decoded fc.decoded reading.decoded heard.carried heard.is_flogi heard.decoded capsule.decoded crc.crc crc.remainder els.decoded ct.decoded zones.joined rules.rule_for verdicts.judged
entry13_is_right = refl

abbrev pub J14 : Journal
J14 = entry13 ∷ J13

pub sent_at_entry0_on_port1 : map (λ s. s.bytes) (filter (λ s. s.port == 1) (outs.outputs_by C 1 (record { tables = state.tables_of C J0; advertised = outs.advertised_at C J0; rscns = 0 }) (state.tables_of C J1) entry0 ++ outs.outputs_by C 1 (record { tables = state.tables_of C J1; advertised = outs.advertised_at C J1; rscns = 0 }) (state.tables_of C J2) entry1)) ≡ (bytes (codes "001b2100000a00051e00000281006064891410000002000200268000072400002301010000fffffe01980000000000000001ffff0000000002000000202000003000084000002710000007d0200100051e000002100000051e000002") ++ zeros 32 ++ (136 ∷ []) ++ zeros 47 ++ bytes (codes "02020efc00010100")) ∷ []
unfolding eth.decoded fc.decoded reading.decoded heard.carried heard.is_flogi capsule.written crc.crc crc.remainder fip.written els.written ct.decoded answer.written zones.joined server.query server.feature_word server.feature_words outs.notices outs.outputs_by
sent_at_entry0_on_port1 = refl

pub sent_at_entry2_on_port1 : map (λ s. s.bytes) (filter (λ s. s.port == 1) (outs.outputs_by C 1 (record { tables = state.tables_of C J2; advertised = outs.advertised_at C J2; rscns = 0 }) (state.tables_of C J3) entry2 ++ outs.outputs_by C 1 (record { tables = state.tables_of C J3; advertised = outs.advertised_at C J3; rscns = 0 }) (state.tables_of C J4) entry3 ++ outs.outputs_by C 1 (record { tables = state.tables_of C J4; advertised = outs.advertised_at C J4; rscns = 0 }) (state.tables_of C J5) entry4 ++ outs.outputs_by C 1 (record { tables = state.tables_of C J5; advertised = outs.advertised_at C J5; rscns = 0 }) (state.tables_of C J6) entry5 ++ outs.outputs_by C 1 (record { tables = state.tables_of C J6; advertised = outs.advertised_at C J6; rscns = 0 }) (state.tables_of C J7) entry6 ++ outs.outputs_by C 1 (record { tables = state.tables_of C J7; advertised = outs.advertised_at C J7; rscns = 0 }) (state.tables_of C J8) entry7 ++ outs.outputs_by C 1 (record { tables = state.tables_of C J8; advertised = outs.advertised_at C J8; rscns = 0 }) (state.tables_of C J9) entry8 ++ outs.outputs_by C 1 (record { tables = state.tables_of C J9; advertised = outs.advertised_at C J9; rscns = 0 }) (state.tables_of C J10) entry9 ++ outs.outputs_by C 1 (record { tables = state.tables_of C J10; advertised = outs.advertised_at C J10; rscns = 0 }) (state.tables_of C J11) entry10 ++ outs.outputs_by C 1 (record { tables = state.tables_of C J11; advertised = outs.advertised_at C J11; rscns = 0 }) (state.tables_of C J12) entry11 ++ outs.outputs_by C 1 (record { tables = state.tables_of C J12; advertised = outs.advertised_at C J12; rscns = 0 }) (state.tables_of C J13) entry12 ++ outs.outputs_by C 1 (record { tables = state.tables_of C J13; advertised = outs.advertised_at C J13; rscns = 0 }) (state.tables_of C J14) entry13)) ≡ (bytes (codes "0efc0001010000051e000002810060648906") ++ zeros 13 ++ bytes (codes "2e2301010000fffffc01980000000000000009ffff0000000002000000202000000000084000ff0000000007d0200000051e000002100000051e000002") ++ zeros 32 ++ bytes (codes "800000000000084000ff00000001") ++ zeros 34 ++ bytes (codes "2c7c6cd442000000")) ∷ (bytes (codes "0efc0001010000051e000002810060648906") ++ zeros 13 ++ bytes (codes "2e0301010000fffffc20980000000000000213ffff0000000001000000fc0200008002000000000000bdfaf70042000000")) ∷ (bytes (codes "0efc0001010000051e000002810060648906") ++ zeros 13 ++ bytes (codes "2e0301010000fffffc2098000000000000021fffff0000000001000000fc02000080020000000000000818120042000000")) ∷ (bytes (codes "0efc0001010000051e000002810060648906") ++ zeros 13 ++ bytes (codes "2e0301010000fffffc2098000000000000021fffff0000000001000000fc02000080020000000000000818120042000000")) ∷ (bytes (codes "0efc0001010000051e000002810060648906") ++ zeros 13 ++ bytes (codes "2e0301010000fffffc20980000000000000217ffff0000000001000000fc02000080020000000000002e5bab0042000000")) ∷ (bytes (codes "0efc0001010000051e000002810060648906") ++ zeros 13 ++ bytes (codes "2e0301010000fffffc20980000000000000218ffff0000000001000000fc0200008002000000000000a680ab7642000000")) ∷ (bytes (codes "0efc0001010000051e000002810060648906") ++ zeros 13 ++ bytes (codes "2e0301010000fffffc2098000000000000011fffff0000000001000000fc0200008002") ++ zeros 13 ++ (47 ∷ []) ++ zeros 120 ++ bytes (codes "0d0f93d642000000")) ∷ (bytes (codes "0efc0001010000051e000002810060648906") ++ zeros 13 ++ bytes (codes "2e0301010000fffffc20980000000000000300ffff0000000001000000fc0200008002000000000000eb2045f642000000")) ∷ (bytes (codes "0efc0001010000051e000002810060648906") ++ zeros 13 ++ bytes (codes "2e0301010000fffffc20980000000000000113ffff0000000001000000fc02000080020000000000001000001b21000001e337552d42000000")) ∷ (bytes (codes "0efc0001010000051e000002810060648906") ++ zeros 13 ++ bytes (codes "2e0301010000fffffc2098000000000000011fffff0000000001000000fc0200008002") ++ zeros 134 ++ bytes (codes "e2f1c01e42000000")) ∷ (bytes (codes "0efc0001010000051e000002810060648906") ++ zeros 13 ++ bytes (codes "2e0301010000fffffc20980000000000000117ffff0000000001000000fc0200008001000000090700d345cd2942000000")) ∷ []
unfolding eth.decoded fc.decoded reading.decoded heard.carried heard.is_flogi capsule.written crc.crc crc.remainder fip.written els.written ct.decoded answer.written zones.joined server.query server.feature_word server.feature_words outs.notices outs.outputs_by
sent_at_entry2_on_port1 = refl

pub logins_at_the_end : map {B = List ℕ} (λ p. p.address ∷ p.name ∷ p.values.node_name ∷ p.enode.port ∷ p.node_heard ∷ p.port_heard ∷ unwrap_or p.server 0 ∷ p.watch ∷ []) (state.tables_of C J14).ports ≡ (0x010100 ∷ 0x2000001b2100000a ∷ 0x1000001b21000001 ∷ 1 ∷ 1000 ∷ 1000 ∷ 2112 ∷ 0 ∷ []) ∷ []
unfolding eth.decoded fc.decoded reading.decoded heard.carried heard.is_flogi ct.decoded
logins_at_the_end = refl

pub type_maps : map {B = List ℕ} (λ p. p.values.types.0) (state.tables_of C J14).ports ≡ (0x00000000 ∷ 0x00000000 ∷ 0x00000000 ∷ 0x00000000 ∷ 0x00000000 ∷ 0x00000000 ∷ 0x00000000 ∷ 0x00000000 ∷ []) ∷ []
unfolding eth.decoded fc.decoded reading.decoded heard.carried heard.is_flogi ct.decoded
type_maps = refl

pub lines : text.text J14 ≡ codes "journal 2\n1000 tick\n1000 1 0 granted 010100\n1100 tick\n1100 1 1 ns-login\n1100 1 2 registered\n1100 1 3 registered\n1100 1 4 registered\n1100 1 5 registered\n1100 1 6 registered\n1100 1 7 answered\n1100 1 8 registered\n1100 1 9 answered\n1100 1 10 answered\n1100 1 11 refused 09 07\n"
unfolding text.text fmt.digits
lines = refl
