-- The name that an address had last, and the end of its quarantine.
use Rattle.std.specs.Prelude.{◌≡◌, ℕ, ◌==◌, unwrap_or, true, false, List, [], ◌∷◌, ◌++◌, refl, map, filter, codes}
use Rattle.fab_base.specs.declared.values.Caught.{Caught}
use Rattle.fab_config.specs.Settings.{Settings}
use Rattle.fab_policy.specs.State as state
use Rattle.fab_policy.specs.Verdicts as verdicts
use Rattle.ct_messages.specs.Server as server
use Rattle.fab_policy.specs.Legal as legal
use Rattle.fab_policy.specs.Rules as rules
use Rattle.heard_frames.specs.Heard as heard
use Rattle.fab_policy.specs.Outputs as outs
use Rattle.fab_policy.specs.declared.event.Event.{Event}
use Rattle.fab_policy.specs.declared.event.Event.TheVariants.{Tick, Frame}
use Rattle.fab_policy.specs.declared.verdict.Verdict.TheVariants.{Granted, Rejected, Logout}
use Rattle.eth_frames.specs.Ethernet as eth
use Rattle.fc_check.specs.Crc as crc
use Rattle.fc_frames.specs.Frame as fc
use Rattle.fcoe_codec.specs.Fcoe as capsule
use Rattle.fip_codec.specs.Message as fip
use Rattle.fip_codec.specs.Reading as reading
use Rattle.els_messages.specs.Els as els
use Rattle.ct_messages.specs.Ct as ct
use Rattle.ct_messages.specs.Answer as answer
use Rattle.zone_rules.specs.Joined as zones
use Rattle.std.specs.Fmt as fmt
use Rattle.fab_policy.specs.Journal.{Journal}
use Rattle.fab_base.specs.Counting.{counting}
use Rattle.fab_policy.specs.Free as free
use Rattle.fab_policy.specs.Text as text
use Rattle.fab_base.specs.Layout.{zeros}
use Rattle.examples.specs.Given.{bytes}

abbrev pub C : Settings
C = record { switch = 0x100000051e000002; fcf_mac = bytes (codes "00051e000002"); fc_map = 0xefc00; vlan = 100; domain = 1; pool = 1; priority = 128; period = 90000; window = 73; limit = 240; zones = []; sets = []; activations = [] }

abbrev pub J0 : Journal
J0 = []

-- 1022 tick
abbrev pub entry0 : Event
entry0 = Tick 1022 []

pub entry0_ends_these : state.addresses (state.overdue C (state.tables_of C J0) 1022) ≡ []
unfolding eth.decoded fc.decoded reading.decoded heard.carried heard.is_flogi
entry0_ends_these = refl

abbrev pub J1 : Journal
J1 = entry0 ∷ J0

abbrev pub frame1 : Caught
frame1 = record { bytes = (bytes (codes "00051e000002001b2100000a810000648914100000020001002680000724000022fffffe0000000001290000000000000001ffff00000000040000002020000080000840") ++ zeros 8 ++ bytes (codes "2000001b2100000a1000001b21000001") ++ zeros 32 ++ (128 ∷ []) ++ zeros 47 ++ bytes (codes "0202000000000000")); whole = true }

-- 1022 1 0 granted 010100
abbrev pub entry1 : Event
entry1 = Frame 1 0 frame1 (Granted 0x010100)

pub entry1_is_right : verdicts.IsRight C (state.tables_of C J1) 1 frame1 (Granted 0x010100)
unfolding eth.decoded fc.decoded reading.decoded heard.carried heard.is_flogi heard.decoded capsule.decoded crc.crc crc.remainder els.decoded ct.decoded zones.joined rules.rule_for verdicts.judged
entry1_is_right = refl

-- the addresses that may be granted
pub free_at_entry1 : filter (free.is_free (state.tables_of C J1) (record { flogi = true; enode = record { port = 1; mac = bytes (codes "001b2100000a") }; name = 0x2000001b2100000a })) (counting 0x10100 1) ≡ 0x10100 ∷ []
unfolding eth.decoded fc.decoded reading.decoded heard.carried heard.is_flogi
free_at_entry1 = refl

abbrev pub J2 : Journal
J2 = entry1 ∷ J1

-- 1095 tick
abbrev pub entry2 : Event
entry2 = Tick 1095 []

pub entry2_ends_these : state.addresses (state.overdue C (state.tables_of C J2) 1095) ≡ []
unfolding eth.decoded fc.decoded reading.decoded heard.carried heard.is_flogi
entry2_ends_these = refl

abbrev pub J3 : Journal
J3 = entry2 ∷ J2

abbrev pub frame3 : Caught
frame3 = record { bytes = bytes (codes "00051e000002001b2100000a810000648914100000020001000d8000090b000022fffffe0001010001290000000000000003ffff0000000005000000000101002000001b2100000a02020efc00010100"); whole = true }

-- 1095 1 1 logout 010100
abbrev pub entry3 : Event
entry3 = Frame 1 1 frame3 (Logout 0x010100)

pub entry3_is_right : verdicts.IsRight C (state.tables_of C J3) 1 frame3 (Logout 0x010100)
unfolding eth.decoded fc.decoded reading.decoded heard.carried heard.is_flogi heard.decoded capsule.decoded crc.crc crc.remainder els.decoded ct.decoded zones.joined rules.rule_for verdicts.judged
entry3_is_right = refl

abbrev pub J4 : Journal
J4 = entry3 ∷ J3

-- 1168 tick
abbrev pub entry4 : Event
entry4 = Tick 1168 []

pub entry4_ends_these : state.addresses (state.overdue C (state.tables_of C J4) 1168) ≡ []
unfolding eth.decoded fc.decoded reading.decoded heard.carried heard.is_flogi
entry4_ends_these = refl

abbrev pub J5 : Journal
J5 = entry4 ∷ J4

abbrev pub frame5 : Caught
frame5 = record { bytes = (bytes (codes "00051e000002001b2100000b810000648914100000020001002680000724000022fffffe0000000001290000000000000001ffff00000000040000002020000080000840") ++ zeros 8 ++ bytes (codes "2000001b2100000b1000001b21000001") ++ zeros 32 ++ (128 ∷ []) ++ zeros 47 ++ bytes (codes "0202000000000000")); whole = true }

-- 1168 1 2 rejected 09 29
abbrev pub entry5 : Event
entry5 = Frame 1 2 frame5 (Rejected 0x09 0x29)

pub entry5_is_right : verdicts.IsRight C (state.tables_of C J5) 1 frame5 (Rejected 0x09 0x29)
unfolding eth.decoded fc.decoded reading.decoded heard.carried heard.is_flogi heard.decoded capsule.decoded crc.crc crc.remainder els.decoded ct.decoded zones.joined rules.rule_for verdicts.judged
entry5_is_right = refl

abbrev pub J6 : Journal
J6 = entry5 ∷ J5

-- 1241 tick
abbrev pub entry6 : Event
entry6 = Tick 1241 []

pub entry6_ends_these : state.addresses (state.overdue C (state.tables_of C J6) 1241) ≡ []
unfolding eth.decoded fc.decoded reading.decoded heard.carried heard.is_flogi
entry6_ends_these = refl

abbrev pub J7 : Journal
J7 = entry6 ∷ J6

abbrev pub frame7 : Caught
frame7 = record { bytes = (bytes (codes "00051e000002001b2100000a810000648914100000020001002680000724000022fffffe0000000001290000000000000001ffff00000000040000002020000080000840") ++ zeros 8 ++ bytes (codes "2000001b2100000a1000001b21000001") ++ zeros 32 ++ (128 ∷ []) ++ zeros 47 ++ bytes (codes "0202000000000000")); whole = true }

-- 1241 1 3 granted 010100
abbrev pub entry7 : Event
entry7 = Frame 1 3 frame7 (Granted 0x010100)

pub entry7_is_right : verdicts.IsRight C (state.tables_of C J7) 1 frame7 (Granted 0x010100)
unfolding eth.decoded fc.decoded reading.decoded heard.carried heard.is_flogi heard.decoded capsule.decoded crc.crc crc.remainder els.decoded ct.decoded zones.joined rules.rule_for verdicts.judged
entry7_is_right = refl

-- the addresses that may be granted
pub free_at_entry7 : filter (free.is_free (state.tables_of C J7) (record { flogi = true; enode = record { port = 1; mac = bytes (codes "001b2100000a") }; name = 0x2000001b2100000a })) (counting 0x10100 1) ≡ 0x10100 ∷ []
unfolding eth.decoded fc.decoded reading.decoded heard.carried heard.is_flogi
free_at_entry7 = refl

abbrev pub J8 : Journal
J8 = entry7 ∷ J7

-- 1314 tick
abbrev pub entry8 : Event
entry8 = Tick 1314 []

pub entry8_ends_these : state.addresses (state.overdue C (state.tables_of C J8) 1314) ≡ []
unfolding eth.decoded fc.decoded reading.decoded heard.carried heard.is_flogi
entry8_ends_these = refl

abbrev pub J9 : Journal
J9 = entry8 ∷ J8

abbrev pub frame9 : Caught
frame9 = record { bytes = bytes (codes "00051e000002001b2100000a810000648914100000020001000d8000090b000022fffffe0001010001290000000000000003ffff0000000005000000000101002000001b2100000a02020efc00010100"); whole = true }

-- 1314 1 4 logout 010100
abbrev pub entry9 : Event
entry9 = Frame 1 4 frame9 (Logout 0x010100)

pub entry9_is_right : verdicts.IsRight C (state.tables_of C J9) 1 frame9 (Logout 0x010100)
unfolding eth.decoded fc.decoded reading.decoded heard.carried heard.is_flogi heard.decoded capsule.decoded crc.crc crc.remainder els.decoded ct.decoded zones.joined rules.rule_for verdicts.judged
entry9_is_right = refl

abbrev pub J10 : Journal
J10 = entry9 ∷ J9

-- 11242 tick
abbrev pub entry10 : Event
entry10 = Tick 11242 []

pub entry10_ends_these : state.addresses (state.overdue C (state.tables_of C J10) 11242) ≡ []
unfolding eth.decoded fc.decoded reading.decoded heard.carried heard.is_flogi
entry10_ends_these = refl

pub entry10_is_owed_no_earlier : legal.is_owed_after C J10 11169 ≡ false
unfolding eth.decoded fc.decoded reading.decoded heard.carried heard.is_flogi legal.is_tick_owed
entry10_is_owed_no_earlier = refl

abbrev pub J11 : Journal
J11 = entry10 ∷ J10

abbrev pub frame11 : Caught
frame11 = record { bytes = (bytes (codes "00051e000002001b2100000b810000648914100000020001002680000724000022fffffe0000000001290000000000000001ffff00000000040000002020000080000840") ++ zeros 8 ++ bytes (codes "2000001b2100000b1000001b21000001") ++ zeros 32 ++ (128 ∷ []) ++ zeros 47 ++ bytes (codes "0202000000000000")); whole = true }

-- 11242 1 5 rejected 09 29
abbrev pub entry11 : Event
entry11 = Frame 1 5 frame11 (Rejected 0x09 0x29)

pub entry11_is_right : verdicts.IsRight C (state.tables_of C J11) 1 frame11 (Rejected 0x09 0x29)
unfolding eth.decoded fc.decoded reading.decoded heard.carried heard.is_flogi heard.decoded capsule.decoded crc.crc crc.remainder els.decoded ct.decoded zones.joined rules.rule_for verdicts.judged
entry11_is_right = refl

abbrev pub J12 : Journal
J12 = entry11 ∷ J11

-- 11315 tick
abbrev pub entry12 : Event
entry12 = Tick 11315 []

pub entry12_ends_these : state.addresses (state.overdue C (state.tables_of C J12) 11315) ≡ []
unfolding eth.decoded fc.decoded reading.decoded heard.carried heard.is_flogi
entry12_ends_these = refl

abbrev pub J13 : Journal
J13 = entry12 ∷ J12

abbrev pub frame13 : Caught
frame13 = record { bytes = (bytes (codes "00051e000002001b2100000b810000648914100000020001002680000724000022fffffe0000000001290000000000000001ffff00000000040000002020000080000840") ++ zeros 8 ++ bytes (codes "2000001b2100000b1000001b21000001") ++ zeros 32 ++ (128 ∷ []) ++ zeros 47 ++ bytes (codes "0202000000000000")); whole = true }

-- 11315 1 6 granted 010100
abbrev pub entry13 : Event
entry13 = Frame 1 6 frame13 (Granted 0x010100)

pub entry13_is_right : verdicts.IsRight C (state.tables_of C J13) 1 frame13 (Granted 0x010100)
unfolding eth.decoded fc.decoded reading.decoded heard.carried heard.is_flogi heard.decoded capsule.decoded crc.crc crc.remainder els.decoded ct.decoded zones.joined rules.rule_for verdicts.judged
entry13_is_right = refl

-- the addresses that may be granted
pub free_at_entry13 : filter (free.is_free (state.tables_of C J13) (record { flogi = true; enode = record { port = 1; mac = bytes (codes "001b2100000b") }; name = 0x2000001b2100000b })) (counting 0x10100 1) ≡ 0x10100 ∷ []
unfolding eth.decoded fc.decoded reading.decoded heard.carried heard.is_flogi
free_at_entry13 = refl

abbrev pub J14 : Journal
J14 = entry13 ∷ J13

pub sent_at_entry0_on_port1 : map (λ s. s.bytes) (filter (λ s. s.port == 1) (outs.outputs_by C 1 (record { tables = state.tables_of C J0; advertised = outs.advertised_at C J0; rscns = 0 }) (state.tables_of C J1) entry0 ++ outs.outputs_by C 1 (record { tables = state.tables_of C J1; advertised = outs.advertised_at C J1; rscns = 0 }) (state.tables_of C J2) entry1)) ≡ (bytes (codes "001b2100000a00051e00000281006064891410000002000200268000072400002301010000fffffe01980000000000000001ffff0000000002000000202000003000084000002710000007d0200100051e000002100000051e000002") ++ zeros 32 ++ (136 ∷ []) ++ zeros 47 ++ bytes (codes "02020efc00010100")) ∷ []
unfolding eth.decoded fc.decoded reading.decoded heard.carried heard.is_flogi capsule.written crc.crc crc.remainder fip.written els.written ct.decoded answer.written zones.joined server.query server.feature_word server.feature_words outs.notices outs.outputs_by
sent_at_entry0_on_port1 = refl

pub sent_at_entry2_on_port1 : map (λ s. s.bytes) (filter (λ s. s.port == 1) (outs.outputs_by C 1 (record { tables = state.tables_of C J2; advertised = outs.advertised_at C J2; rscns = 0 }) (state.tables_of C J3) entry2 ++ outs.outputs_by C 1 (record { tables = state.tables_of C J3; advertised = outs.advertised_at C J3; rscns = 0 }) (state.tables_of C J4) entry3)) ≡ bytes (codes "001b2100000a00051e00000281006064891410000002000200088000090800002301010000fffffe01980000000000000003ffff0000000002000000") ∷ []
unfolding eth.decoded fc.decoded reading.decoded heard.carried heard.is_flogi capsule.written crc.crc crc.remainder fip.written els.written ct.decoded answer.written zones.joined server.query server.feature_word server.feature_words outs.notices outs.outputs_by
sent_at_entry2_on_port1 = refl

pub sent_at_entry4_on_port1 : map (λ s. s.bytes) (filter (λ s. s.port == 1) (outs.outputs_by C 1 (record { tables = state.tables_of C J4; advertised = outs.advertised_at C J4; rscns = 0 }) (state.tables_of C J5) entry4 ++ outs.outputs_by C 1 (record { tables = state.tables_of C J5; advertised = outs.advertised_at C J5; rscns = 0 }) (state.tables_of C J6) entry5)) ≡ bytes (codes "001b2100000b00051e00000281006064891410000002000200098000070900002300000000fffffe01980000000000000001ffff000000000100000000092900") ∷ []
unfolding eth.decoded fc.decoded reading.decoded heard.carried heard.is_flogi capsule.written crc.crc crc.remainder fip.written els.written ct.decoded answer.written zones.joined server.query server.feature_word server.feature_words outs.notices outs.outputs_by
sent_at_entry4_on_port1 = refl

pub sent_at_entry6_on_port1 : map (λ s. s.bytes) (filter (λ s. s.port == 1) (outs.outputs_by C 1 (record { tables = state.tables_of C J6; advertised = outs.advertised_at C J6; rscns = 0 }) (state.tables_of C J7) entry6 ++ outs.outputs_by C 1 (record { tables = state.tables_of C J7; advertised = outs.advertised_at C J7; rscns = 0 }) (state.tables_of C J8) entry7)) ≡ (bytes (codes "001b2100000a00051e00000281006064891410000002000200268000072400002301010000fffffe01980000000000000001ffff0000000002000000202000003000084000002710000007d0200100051e000002100000051e000002") ++ zeros 32 ++ (136 ∷ []) ++ zeros 47 ++ bytes (codes "02020efc00010100")) ∷ []
unfolding eth.decoded fc.decoded reading.decoded heard.carried heard.is_flogi capsule.written crc.crc crc.remainder fip.written els.written ct.decoded answer.written zones.joined server.query server.feature_word server.feature_words outs.notices outs.outputs_by
sent_at_entry6_on_port1 = refl

pub sent_at_entry8_on_port1 : map (λ s. s.bytes) (filter (λ s. s.port == 1) (outs.outputs_by C 1 (record { tables = state.tables_of C J8; advertised = outs.advertised_at C J8; rscns = 0 }) (state.tables_of C J9) entry8 ++ outs.outputs_by C 1 (record { tables = state.tables_of C J9; advertised = outs.advertised_at C J9; rscns = 0 }) (state.tables_of C J10) entry9)) ≡ bytes (codes "001b2100000a00051e00000281006064891410000002000200088000090800002301010000fffffe01980000000000000003ffff0000000002000000") ∷ []
unfolding eth.decoded fc.decoded reading.decoded heard.carried heard.is_flogi capsule.written crc.crc crc.remainder fip.written els.written ct.decoded answer.written zones.joined server.query server.feature_word server.feature_words outs.notices outs.outputs_by
sent_at_entry8_on_port1 = refl

pub sent_at_entry10_on_port1 : map (λ s. s.bytes) (filter (λ s. s.port == 1) (outs.outputs_by C 1 (record { tables = state.tables_of C J10; advertised = outs.advertised_at C J10; rscns = 0 }) (state.tables_of C J11) entry10 ++ outs.outputs_by C 1 (record { tables = state.tables_of C J11; advertised = outs.advertised_at C J11; rscns = 0 }) (state.tables_of C J12) entry11)) ≡ bytes (codes "001b2100000b00051e00000281006064891410000002000200098000070900002300000000fffffe01980000000000000001ffff000000000100000000092900") ∷ []
unfolding eth.decoded fc.decoded reading.decoded heard.carried heard.is_flogi capsule.written crc.crc crc.remainder fip.written els.written ct.decoded answer.written zones.joined server.query server.feature_word server.feature_words outs.notices outs.outputs_by
sent_at_entry10_on_port1 = refl

pub sent_at_entry12_on_port1 : map (λ s. s.bytes) (filter (λ s. s.port == 1) (outs.outputs_by C 1 (record { tables = state.tables_of C J12; advertised = outs.advertised_at C J12; rscns = 0 }) (state.tables_of C J13) entry12 ++ outs.outputs_by C 1 (record { tables = state.tables_of C J13; advertised = outs.advertised_at C J13; rscns = 0 }) (state.tables_of C J14) entry13)) ≡ (bytes (codes "001b2100000b00051e00000281006064891410000002000200268000072400002301010000fffffe01980000000000000001ffff0000000002000000202000003000084000002710000007d0200100051e000002100000051e000002") ++ zeros 32 ++ (136 ∷ []) ++ zeros 47 ++ bytes (codes "02020efc00010100")) ∷ []
unfolding eth.decoded fc.decoded reading.decoded heard.carried heard.is_flogi capsule.written crc.crc crc.remainder fip.written els.written ct.decoded answer.written zones.joined server.query server.feature_word server.feature_words outs.notices outs.outputs_by
sent_at_entry12_on_port1 = refl

pub logins_at_the_end : map {B = List ℕ} (λ p. p.address ∷ p.name ∷ p.values.node_name ∷ p.enode.port ∷ p.node_heard ∷ p.port_heard ∷ unwrap_or p.server 0 ∷ p.watch ∷ []) (state.tables_of C J14).ports ≡ (0x010100 ∷ 0x2000001b2100000b ∷ 0x1000001b21000001 ∷ 1 ∷ 11315 ∷ 11315 ∷ 0 ∷ 0 ∷ []) ∷ []
unfolding eth.decoded fc.decoded reading.decoded heard.carried heard.is_flogi ct.decoded
logins_at_the_end = refl

pub type_maps : map {B = List ℕ} (λ p. p.values.types.0) (state.tables_of C J14).ports ≡ (0x00000000 ∷ 0x00000000 ∷ 0x00000000 ∷ 0x00000000 ∷ 0x00000000 ∷ 0x00000000 ∷ 0x00000000 ∷ 0x00000000 ∷ []) ∷ []
unfolding eth.decoded fc.decoded reading.decoded heard.carried heard.is_flogi ct.decoded
type_maps = refl

pub lines : text.text J14 ≡ codes "journal 2\n1022 tick\n1022 1 0 granted 010100\n1095 tick\n1095 1 1 logout 010100\n1168 tick\n1168 1 2 rejected 09 29\n1241 tick\n1241 1 3 granted 010100\n1314 tick\n1314 1 4 logout 010100\n11242 tick\n11242 1 5 rejected 09 29\n11315 tick\n11315 1 6 granted 010100\n"
unfolding text.text fmt.digits
lines = refl
