-- A FLOGI of an ENode that is logged in ends its earlier addresses.
use Rattle.std.specs.Prelude.{◌≡◌, ℕ, ◌==◌, unwrap_or, true, false, List, [], ◌∷◌, ◌++◌, refl, map, filter, codes}
use Rattle.fab_base.specs.declared.values.Caught.{Caught}
use Rattle.fab_config.specs.Settings.{Settings}
use Rattle.fab_policy.specs.State as state
use Rattle.fab_policy.specs.Verdicts as verdicts
use Rattle.ct_messages.specs.Server as server
use Rattle.fab_policy.specs.Rules as rules
use Rattle.heard_frames.specs.Heard as heard
use Rattle.fab_policy.specs.Outputs as outs
use Rattle.fab_policy.specs.declared.event.Event.{Event}
use Rattle.fab_policy.specs.declared.event.Event.TheVariants.{Tick, Frame}
use Rattle.fab_policy.specs.declared.verdict.Verdict.TheVariants.{Granted}
use Rattle.eth_frames.specs.Ethernet as eth
use Rattle.fc_check.specs.Crc as crc
use Rattle.fc_frames.specs.Frame as fc
use Rattle.fcoe_codec.specs.Fcoe as capsule
use Rattle.fip_codec.specs.Message as fip
use Rattle.fip_codec.specs.Reading as reading
use Rattle.els_messages.specs.Els as els
use Rattle.ct_messages.specs.Ct as ct
use Rattle.ct_messages.specs.Answer as answer
use Rattle.zone_rules.specs.Joined as zones
use Rattle.std.specs.Fmt as fmt
use Rattle.fab_policy.specs.Journal.{Journal}
use Rattle.fab_base.specs.Counting.{counting}
use Rattle.fab_policy.specs.Free as free
use Rattle.fab_policy.specs.Text as text
use Rattle.fab_base.specs.Layout.{zeros}
use Rattle.examples.specs.Given.{bytes}

abbrev pub C : Settings
C = record { switch = 0x100000051e000002; fcf_mac = bytes (codes "00051e000002"); fc_map = 0xefc00; vlan = 100; domain = 1; pool = 4; priority = 128; period = 8000; window = 100; limit = 3; zones = []; sets = []; activations = [] }

abbrev pub J0 : Journal
J0 = []

-- 1000 tick
abbrev pub entry0 : Event
entry0 = Tick 1000 []

abbrev pub J1 : Journal
J1 = entry0 ∷ J0

abbrev pub frame1 : Caught
frame1 = record { bytes = (bytes (codes "00051e000002001b2100000a810000648914100000020001002680000724000022fffffe0000000001290000000000000001ffff00000000040000002020000080000840") ++ zeros 8 ++ bytes (codes "2000001b2100000a1000001b21000001") ++ zeros 32 ++ (128 ∷ []) ++ zeros 47 ++ bytes (codes "0202000000000000")); whole = true }

-- 1000 1 0 granted 010100
abbrev pub entry1 : Event
entry1 = Frame 1 0 frame1 (Granted 0x010100)

pub entry1_is_right : verdicts.IsRight C (state.tables_of C J1) 1 frame1 (Granted 0x010100)
unfolding eth.decoded fc.decoded reading.decoded heard.carried heard.is_flogi heard.decoded capsule.decoded crc.crc crc.remainder els.decoded ct.decoded zones.joined rules.rule_for verdicts.judged
entry1_is_right = refl

-- the addresses that may be granted
pub free_at_entry1 : filter (free.is_free (state.tables_of C J1) (record { flogi = true; enode = record { port = 1; mac = bytes (codes "001b2100000a") }; name = 0x2000001b2100000a })) (counting 0x10100 4) ≡ 0x10100 ∷ 0x10101 ∷ 0x10102 ∷ 0x10103 ∷ []
unfolding eth.decoded fc.decoded reading.decoded heard.carried heard.is_flogi
free_at_entry1 = refl

abbrev pub J2 : Journal
J2 = entry1 ∷ J1

-- 1100 tick
abbrev pub entry2 : Event
entry2 = Tick 1100 []

abbrev pub J3 : Journal
J3 = entry2 ∷ J2

abbrev pub frame3 : Caught
frame3 = record { bytes = (bytes (codes "00051e000002001b2100000a810000648914100000020001002680000824000022fffffe0000000001290000000000000001ffff00000000510000002020000080000840") ++ zeros 8 ++ bytes (codes "2000001b2100000b1000001b21000001") ++ zeros 32 ++ (128 ∷ []) ++ zeros 47 ++ bytes (codes "0202000000000000")); whole = true }

-- 1100 1 1 granted 010101
abbrev pub entry3 : Event
entry3 = Frame 1 1 frame3 (Granted 0x010101)

pub entry3_is_right : verdicts.IsRight C (state.tables_of C J3) 1 frame3 (Granted 0x010101)
unfolding eth.decoded fc.decoded reading.decoded heard.carried heard.is_flogi heard.decoded capsule.decoded crc.crc crc.remainder els.decoded ct.decoded zones.joined rules.rule_for verdicts.judged
entry3_is_right = refl

-- the addresses that may be granted
pub free_at_entry3 : filter (free.is_free (state.tables_of C J3) (record { flogi = false; enode = record { port = 1; mac = bytes (codes "001b2100000a") }; name = 0x2000001b2100000b })) (counting 0x10100 4) ≡ 0x10101 ∷ 0x10102 ∷ 0x10103 ∷ []
unfolding eth.decoded fc.decoded reading.decoded heard.carried heard.is_flogi
free_at_entry3 = refl

abbrev pub J4 : Journal
J4 = entry3 ∷ J3

-- 1200 tick
abbrev pub entry4 : Event
entry4 = Tick 1200 []

abbrev pub J5 : Journal
J5 = entry4 ∷ J4

abbrev pub frame5 : Caught
frame5 = record { bytes = (bytes (codes "00051e000002001b2100000b810000648914100000020001002680000724000022fffffe0000000001290000000000000001ffff00000000040000002020000080000840") ++ zeros 8 ++ bytes (codes "2000001b2100000d1000001b21000001") ++ zeros 32 ++ (128 ∷ []) ++ zeros 47 ++ bytes (codes "0202000000000000")); whole = true }

-- 1200 2 0 granted 010102
abbrev pub entry5 : Event
entry5 = Frame 2 0 frame5 (Granted 0x010102)

pub entry5_is_right : verdicts.IsRight C (state.tables_of C J5) 2 frame5 (Granted 0x010102)
unfolding eth.decoded fc.decoded reading.decoded heard.carried heard.is_flogi heard.decoded capsule.decoded crc.crc crc.remainder els.decoded ct.decoded zones.joined rules.rule_for verdicts.judged
entry5_is_right = refl

-- the addresses that may be granted
pub free_at_entry5 : filter (free.is_free (state.tables_of C J5) (record { flogi = true; enode = record { port = 2; mac = bytes (codes "001b2100000b") }; name = 0x2000001b2100000d })) (counting 0x10100 4) ≡ 0x10102 ∷ 0x10103 ∷ []
unfolding eth.decoded fc.decoded reading.decoded heard.carried heard.is_flogi
free_at_entry5 = refl

abbrev pub J6 : Journal
J6 = entry5 ∷ J5

-- 1300 tick
abbrev pub entry6 : Event
entry6 = Tick 1300 []

abbrev pub J7 : Journal
J7 = entry6 ∷ J6

abbrev pub frame7 : Caught
frame7 = record { bytes = (bytes (codes "00051e000002001b2100000a810000648914100000020001002680000724000022fffffe0000000001290000000000000001ffff00000000040000002020000080000840") ++ zeros 8 ++ bytes (codes "2000001b2100000a1000001b21000001") ++ zeros 32 ++ (128 ∷ []) ++ zeros 47 ++ bytes (codes "0202000000000000")); whole = true }

-- 1300 1 2 granted 010100
abbrev pub entry7 : Event
entry7 = Frame 1 2 frame7 (Granted 0x010100)

pub entry7_is_right : verdicts.IsRight C (state.tables_of C J7) 1 frame7 (Granted 0x010100)
unfolding eth.decoded fc.decoded reading.decoded heard.carried heard.is_flogi heard.decoded capsule.decoded crc.crc crc.remainder els.decoded ct.decoded zones.joined rules.rule_for verdicts.judged
entry7_is_right = refl

-- the addresses that may be granted
pub free_at_entry7 : filter (free.is_free (state.tables_of C J7) (record { flogi = true; enode = record { port = 1; mac = bytes (codes "001b2100000a") }; name = 0x2000001b2100000a })) (counting 0x10100 4) ≡ 0x10100 ∷ 0x10103 ∷ []
unfolding eth.decoded fc.decoded reading.decoded heard.carried heard.is_flogi
free_at_entry7 = refl

abbrev pub J8 : Journal
J8 = entry7 ∷ J7

-- 1400 tick
abbrev pub entry8 : Event
entry8 = Tick 1400 []

abbrev pub J9 : Journal
J9 = entry8 ∷ J8

abbrev pub frame9 : Caught
frame9 = record { bytes = (bytes (codes "00051e000002001b2100000a810000648914100000020001002680000724000022fffffe0000000001290000000000000001ffff00000000040000002020000080000840") ++ zeros 8 ++ bytes (codes "2000001b2100000c1000001b21000001") ++ zeros 32 ++ (128 ∷ []) ++ zeros 47 ++ bytes (codes "0202000000000000")); whole = true }

-- 1400 1 3 granted 010103
abbrev pub entry9 : Event
entry9 = Frame 1 3 frame9 (Granted 0x010103)

pub entry9_is_right : verdicts.IsRight C (state.tables_of C J9) 1 frame9 (Granted 0x010103)
unfolding eth.decoded fc.decoded reading.decoded heard.carried heard.is_flogi heard.decoded capsule.decoded crc.crc crc.remainder els.decoded ct.decoded zones.joined rules.rule_for verdicts.judged
entry9_is_right = refl

-- the addresses that may be granted
pub free_at_entry9 : filter (free.is_free (state.tables_of C J9) (record { flogi = true; enode = record { port = 1; mac = bytes (codes "001b2100000a") }; name = 0x2000001b2100000c })) (counting 0x10100 4) ≡ 0x10103 ∷ []
unfolding eth.decoded fc.decoded reading.decoded heard.carried heard.is_flogi
free_at_entry9 = refl

abbrev pub J10 : Journal
J10 = entry9 ∷ J9

-- 1500 tick
abbrev pub entry10 : Event
entry10 = Tick 1500 []

abbrev pub J11 : Journal
J11 = entry10 ∷ J10

abbrev pub frame11 : Caught
frame11 = record { bytes = (bytes (codes "00051e000002001b2100000a810000648914100000020001002680000724000022fffffe0000000001290000000000000001ffff00000000040000002020000080000840") ++ zeros 8 ++ bytes (codes "2000001b2100000a1000001b21000001") ++ zeros 32 ++ (128 ∷ []) ++ zeros 47 ++ bytes (codes "0202000000000000")); whole = true }

-- 1500 1 4 granted 010100
abbrev pub entry11 : Event
entry11 = Frame 1 4 frame11 (Granted 0x010100)

pub entry11_is_right : verdicts.IsRight C (state.tables_of C J11) 1 frame11 (Granted 0x010100)
unfolding eth.decoded fc.decoded reading.decoded heard.carried heard.is_flogi heard.decoded capsule.decoded crc.crc crc.remainder els.decoded ct.decoded zones.joined rules.rule_for verdicts.judged
entry11_is_right = refl

-- the addresses that may be granted
pub free_at_entry11 : filter (free.is_free (state.tables_of C J11) (record { flogi = true; enode = record { port = 1; mac = bytes (codes "001b2100000a") }; name = 0x2000001b2100000a })) (counting 0x10100 4) ≡ 0x10100 ∷ []
unfolding eth.decoded fc.decoded reading.decoded heard.carried heard.is_flogi
free_at_entry11 = refl

abbrev pub J12 : Journal
J12 = entry11 ∷ J11

pub sent_at_entry0_on_port1 : map (λ s. s.bytes) (filter (λ s. s.port == 1) (outs.outputs_by C 2 (record { tables = state.tables_of C J0; advertised = outs.advertised_at C J0; rscns = 0 }) (state.tables_of C J1) entry0 ++ outs.outputs_by C 2 (record { tables = state.tables_of C J1; advertised = outs.advertised_at C J1; rscns = 0 }) (state.tables_of C J2) entry1)) ≡ (bytes (codes "001b2100000a00051e00000281006064891410000002000200268000072400002301010000fffffe01980000000000000001ffff0000000002000000202000003000084000002710000007d0200100051e000002100000051e000002") ++ zeros 32 ++ (136 ∷ []) ++ zeros 47 ++ bytes (codes "02020efc00010100")) ∷ []
unfolding eth.decoded fc.decoded reading.decoded heard.carried heard.is_flogi capsule.written crc.crc crc.remainder fip.written els.written ct.decoded answer.written zones.joined server.query server.feature_word server.feature_words outs.notices outs.outputs_by
sent_at_entry0_on_port1 = refl

pub sent_at_entry2_on_port1 : map (λ s. s.bytes) (filter (λ s. s.port == 1) (outs.outputs_by C 2 (record { tables = state.tables_of C J2; advertised = outs.advertised_at C J2; rscns = 0 }) (state.tables_of C J3) entry2 ++ outs.outputs_by C 2 (record { tables = state.tables_of C J3; advertised = outs.advertised_at C J3; rscns = 0 }) (state.tables_of C J4) entry3)) ≡ (bytes (codes "001b2100000a00051e00000281006064891410000002000200268000082400002301010100fffffe01980000000000000001ffff0000000002000000202000003000084000002710000007d0200100051e000002100000051e000002") ++ zeros 32 ++ (136 ∷ []) ++ zeros 47 ++ bytes (codes "02020efc00010101")) ∷ []
unfolding eth.decoded fc.decoded reading.decoded heard.carried heard.is_flogi capsule.written crc.crc crc.remainder fip.written els.written ct.decoded answer.written zones.joined server.query server.feature_word server.feature_words outs.notices outs.outputs_by
sent_at_entry2_on_port1 = refl

pub sent_at_entry4_on_port1 : map (λ s. s.bytes) (filter (λ s. s.port == 1) (outs.outputs_by C 2 (record { tables = state.tables_of C J4; advertised = outs.advertised_at C J4; rscns = 0 }) (state.tables_of C J5) entry4 ++ outs.outputs_by C 2 (record { tables = state.tables_of C J5; advertised = outs.advertised_at C J5; rscns = 0 }) (state.tables_of C J6) entry5)) ≡ []
unfolding eth.decoded fc.decoded reading.decoded heard.carried heard.is_flogi capsule.written crc.crc crc.remainder fip.written els.written ct.decoded answer.written zones.joined server.query server.feature_word server.feature_words outs.notices outs.outputs_by
sent_at_entry4_on_port1 = refl

pub sent_at_entry4_on_port2 : map (λ s. s.bytes) (filter (λ s. s.port == 2) (outs.outputs_by C 2 (record { tables = state.tables_of C J4; advertised = outs.advertised_at C J4; rscns = 0 }) (state.tables_of C J5) entry4 ++ outs.outputs_by C 2 (record { tables = state.tables_of C J5; advertised = outs.advertised_at C J5; rscns = 0 }) (state.tables_of C J6) entry5)) ≡ (bytes (codes "001b2100000b00051e00000281006064891410000002000200268000072400002301010200fffffe01980000000000000001ffff0000000002000000202000003000084000002710000007d0200200051e000002100000051e000002") ++ zeros 32 ++ (136 ∷ []) ++ zeros 47 ++ bytes (codes "02020efc00010102")) ∷ []
unfolding eth.decoded fc.decoded reading.decoded heard.carried heard.is_flogi capsule.written crc.crc crc.remainder fip.written els.written ct.decoded answer.written zones.joined server.query server.feature_word server.feature_words outs.notices outs.outputs_by
sent_at_entry4_on_port2 = refl

pub sent_at_entry6_on_port1 : map (λ s. s.bytes) (filter (λ s. s.port == 1) (outs.outputs_by C 2 (record { tables = state.tables_of C J6; advertised = outs.advertised_at C J6; rscns = 0 }) (state.tables_of C J7) entry6 ++ outs.outputs_by C 2 (record { tables = state.tables_of C J7; advertised = outs.advertised_at C J7; rscns = 0 }) (state.tables_of C J8) entry7)) ≡ (bytes (codes "001b2100000a00051e00000281006064891410000002000200268000072400002301010000fffffe01980000000000000001ffff0000000002000000202000003000084000002710000007d0200100051e000002100000051e000002") ++ zeros 32 ++ (136 ∷ []) ++ zeros 47 ++ bytes (codes "02020efc00010100")) ∷ []
unfolding eth.decoded fc.decoded reading.decoded heard.carried heard.is_flogi capsule.written crc.crc crc.remainder fip.written els.written ct.decoded answer.written zones.joined server.query server.feature_word server.feature_words outs.notices outs.outputs_by
sent_at_entry6_on_port1 = refl

pub sent_at_entry8_on_port1 : map (λ s. s.bytes) (filter (λ s. s.port == 1) (outs.outputs_by C 2 (record { tables = state.tables_of C J8; advertised = outs.advertised_at C J8; rscns = 0 }) (state.tables_of C J9) entry8 ++ outs.outputs_by C 2 (record { tables = state.tables_of C J9; advertised = outs.advertised_at C J9; rscns = 0 }) (state.tables_of C J10) entry9)) ≡ (bytes (codes "001b2100000a00051e00000281006064891410000002000200268000072400002301010300fffffe01980000000000000001ffff0000000002000000202000003000084000002710000007d0200100051e000002100000051e000002") ++ zeros 32 ++ (136 ∷ []) ++ zeros 47 ++ bytes (codes "02020efc00010103")) ∷ []
unfolding eth.decoded fc.decoded reading.decoded heard.carried heard.is_flogi capsule.written crc.crc crc.remainder fip.written els.written ct.decoded answer.written zones.joined server.query server.feature_word server.feature_words outs.notices outs.outputs_by
sent_at_entry8_on_port1 = refl

pub sent_at_entry10_on_port1 : map (λ s. s.bytes) (filter (λ s. s.port == 1) (outs.outputs_by C 2 (record { tables = state.tables_of C J10; advertised = outs.advertised_at C J10; rscns = 0 }) (state.tables_of C J11) entry10 ++ outs.outputs_by C 2 (record { tables = state.tables_of C J11; advertised = outs.advertised_at C J11; rscns = 0 }) (state.tables_of C J12) entry11)) ≡ (bytes (codes "001b2100000a00051e00000281006064891410000002000200268000072400002301010000fffffe01980000000000000001ffff0000000002000000202000003000084000002710000007d0200100051e000002100000051e000002") ++ zeros 32 ++ (136 ∷ []) ++ zeros 47 ++ bytes (codes "02020efc00010100")) ∷ []
unfolding eth.decoded fc.decoded reading.decoded heard.carried heard.is_flogi capsule.written crc.crc crc.remainder fip.written els.written ct.decoded answer.written zones.joined server.query server.feature_word server.feature_words outs.notices outs.outputs_by
sent_at_entry10_on_port1 = refl

pub logins_at_the_end : map {B = List ℕ} (λ p. p.address ∷ p.name ∷ p.values.node_name ∷ p.enode.port ∷ p.node_heard ∷ p.port_heard ∷ unwrap_or p.server 0 ∷ p.watch ∷ []) (state.tables_of C J12).ports ≡ (0x010100 ∷ 0x2000001b2100000a ∷ 0x1000001b21000001 ∷ 1 ∷ 1500 ∷ 1500 ∷ 0 ∷ 0 ∷ []) ∷ (0x010102 ∷ 0x2000001b2100000d ∷ 0x1000001b21000001 ∷ 2 ∷ 1200 ∷ 1200 ∷ 0 ∷ 0 ∷ []) ∷ []
unfolding eth.decoded fc.decoded reading.decoded heard.carried heard.is_flogi ct.decoded
logins_at_the_end = refl

pub type_maps : map {B = List ℕ} (λ p. p.values.types.0) (state.tables_of C J12).ports ≡ (0x00000000 ∷ 0x00000000 ∷ 0x00000000 ∷ 0x00000000 ∷ 0x00000000 ∷ 0x00000000 ∷ 0x00000000 ∷ 0x00000000 ∷ []) ∷ (0x00000000 ∷ 0x00000000 ∷ 0x00000000 ∷ 0x00000000 ∷ 0x00000000 ∷ 0x00000000 ∷ 0x00000000 ∷ 0x00000000 ∷ []) ∷ []
unfolding eth.decoded fc.decoded reading.decoded heard.carried heard.is_flogi ct.decoded
type_maps = refl

pub lines : text.text J12 ≡ codes "journal 2\n1000 tick\n1000 1 0 granted 010100\n1100 tick\n1100 1 1 granted 010101\n1200 tick\n1200 2 0 granted 010102\n1300 tick\n1300 1 2 granted 010100\n1400 tick\n1400 1 3 granted 010103\n1500 tick\n1500 1 4 granted 010100\n"
unfolding text.text fmt.digits
lines = refl
