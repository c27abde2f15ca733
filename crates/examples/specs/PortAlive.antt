-- Keep alives of a VN_Port, of which each field counts.
use Rattle.std.specs.Prelude.{◌≡◌, ℕ, unwrap_or, true, List, [], ◌∷◌, ◌++◌, refl, map, codes}
use Rattle.fab_base.specs.declared.values.Caught.{Caught}
use Rattle.fab_config.specs.Settings.{Settings}
use Rattle.fab_policy.specs.State as state
use Rattle.fab_policy.specs.Verdicts as verdicts
use Rattle.fab_policy.specs.Rules as rules
use Rattle.heard_frames.specs.Heard as heard
use Rattle.fab_policy.specs.Cause as cause
use Rattle.fab_policy.specs.declared.event.Event.{Event}
use Rattle.fab_policy.specs.declared.event.Event.TheVariants.{Tick, Frame}
use Rattle.fab_policy.specs.declared.verdict.Verdict.TheVariants.{Granted, AlivePort, Dropped}
use Rattle.fab_policy.specs.declared.verdict.Rule.TheVariants as rule
use Rattle.eth_frames.specs.Ethernet as eth
use Rattle.fc_check.specs.Crc as crc
use Rattle.fc_frames.specs.Frame as fc
use Rattle.fcoe_codec.specs.Fcoe as capsule
use Rattle.fip_codec.specs.Reading as reading
use Rattle.els_messages.specs.Els as els
use Rattle.ct_messages.specs.Ct as ct
use Rattle.zone_rules.specs.Joined as zones
use Rattle.std.specs.Fmt as fmt
use Rattle.fab_policy.specs.Journal.{Journal}
use Rattle.fab_policy.specs.Text as text
use Rattle.fab_base.specs.Layout.{zeros}
use Rattle.examples.specs.Given.{bytes}

abbrev pub C : Settings
C = record { switch = 0x100000051e000002; fcf_mac = bytes (codes "00051e000002"); fc_map = 0xefc00; vlan = 100; domain = 1; pool = 4; priority = 128; period = 8000; window = 100; limit = 240; zones = []; sets = []; activations = [] }

abbrev pub J0 : Journal
J0 = []

-- 1000 tick
abbrev pub entry0 : Event
entry0 = Tick 1000 []

abbrev pub J1 : Journal
J1 = entry0 ∷ J0

abbrev pub frame1 : Caught
frame1 = record { bytes = (bytes (codes "00051e000002001b2100000a810000648914100000020001002680000724000022fffffe0000000001290000000000000001ffff00000000040000002020000080000840") ++ zeros 8 ++ bytes (codes "2000001b2100000a1000001b21000001") ++ zeros 32 ++ (128 ∷ []) ++ zeros 47 ++ bytes (codes "0202000000000000")); whole = true }

-- 1000 1 0 granted 010100
abbrev pub entry1 : Event
entry1 = Frame 1 0 frame1 (Granted 0x010100)

pub entry1_is_right : verdicts.IsRight C (state.tables_of C J1) 1 frame1 (Granted 0x010100)
unfolding eth.decoded fc.decoded reading.decoded heard.carried heard.is_flogi heard.decoded capsule.decoded crc.crc crc.remainder els.decoded ct.decoded zones.joined rules.rule_for verdicts.judged
entry1_is_right = refl

abbrev pub J2 : Journal
J2 = entry1 ∷ J1

-- 1100 tick
abbrev pub entry2 : Event
entry2 = Tick 1100 []

abbrev pub J3 : Journal
J3 = entry2 ∷ J2

abbrev pub frame3 : Caught
frame3 = record { bytes = bytes (codes "00051e0000020efc00010100810000648914100000030001000700000202001b2100000a0b050efc00010100000101002000001b2100000b"); whole = true }

-- 1100 1 1 dropped keepalive-unknown
abbrev pub entry3 : Event
entry3 = Frame 1 1 frame3 (Dropped (cause.plain rule.KeepaliveUnknown))

pub entry3_is_right : verdicts.IsRight C (state.tables_of C J3) 1 frame3 (Dropped (cause.plain rule.KeepaliveUnknown))
unfolding eth.decoded fc.decoded reading.decoded heard.carried heard.is_flogi heard.decoded capsule.decoded crc.crc crc.remainder els.decoded ct.decoded zones.joined rules.rule_for verdicts.judged
entry3_is_right = refl

abbrev pub J4 : Journal
J4 = entry3 ∷ J3

-- 1200 tick
abbrev pub entry4 : Event
entry4 = Tick 1200 []

abbrev pub J5 : Journal
J5 = entry4 ∷ J4

abbrev pub frame5 : Caught
frame5 = record { bytes = bytes (codes "00051e0000020efc00010100810000648914100000030001000700000202001b2100000b0b050efc00010100000101002000001b2100000a"); whole = true }

-- 1200 1 2 dropped keepalive-unknown
abbrev pub entry5 : Event
entry5 = Frame 1 2 frame5 (Dropped (cause.plain rule.KeepaliveUnknown))

pub entry5_is_right : verdicts.IsRight C (state.tables_of C J5) 1 frame5 (Dropped (cause.plain rule.KeepaliveUnknown))
unfolding eth.decoded fc.decoded reading.decoded heard.carried heard.is_flogi heard.decoded capsule.decoded crc.crc crc.remainder els.decoded ct.decoded zones.joined rules.rule_for verdicts.judged
entry5_is_right = refl

abbrev pub J6 : Journal
J6 = entry5 ∷ J5

-- 1300 tick
abbrev pub entry6 : Event
entry6 = Tick 1300 []

abbrev pub J7 : Journal
J7 = entry6 ∷ J6

abbrev pub frame7 : Caught
frame7 = record { bytes = bytes (codes "00051e0000020efc00010100810000648914100000030001000700000202001b2100000a0b050efc00010101000101002000001b2100000a"); whole = true }

-- 1300 1 3 dropped keepalive-unknown
abbrev pub entry7 : Event
entry7 = Frame 1 3 frame7 (Dropped (cause.plain rule.KeepaliveUnknown))

pub entry7_is_right : verdicts.IsRight C (state.tables_of C J7) 1 frame7 (Dropped (cause.plain rule.KeepaliveUnknown))
unfolding eth.decoded fc.decoded reading.decoded heard.carried heard.is_flogi heard.decoded capsule.decoded crc.crc crc.remainder els.decoded ct.decoded zones.joined rules.rule_for verdicts.judged
entry7_is_right = refl

abbrev pub J8 : Journal
J8 = entry7 ∷ J7

-- 1400 tick
abbrev pub entry8 : Event
entry8 = Tick 1400 []

abbrev pub J9 : Journal
J9 = entry8 ∷ J8

abbrev pub frame9 : Caught
frame9 = record { bytes = bytes (codes "00051e0000020efc00010101810000648914100000030001000700000202001b2100000a0b050efc00010100000101002000001b2100000a"); whole = true }

-- 1400 1 4 dropped keepalive-unknown
abbrev pub entry9 : Event
entry9 = Frame 1 4 frame9 (Dropped (cause.plain rule.KeepaliveUnknown))

pub entry9_is_right : verdicts.IsRight C (state.tables_of C J9) 1 frame9 (Dropped (cause.plain rule.KeepaliveUnknown))
unfolding eth.decoded fc.decoded reading.decoded heard.carried heard.is_flogi heard.decoded capsule.decoded crc.crc crc.remainder els.decoded ct.decoded zones.joined rules.rule_for verdicts.judged
entry9_is_right = refl

abbrev pub J10 : Journal
J10 = entry9 ∷ J9

-- 1500 tick
abbrev pub entry10 : Event
entry10 = Tick 1500 []

abbrev pub J11 : Journal
J11 = entry10 ∷ J10

abbrev pub frame11 : Caught
frame11 = record { bytes = bytes (codes "00051e0000020efc00010100810000648914100000030001000700000202001b2100000a0b050efc00010101000101012000001b2100000a"); whole = true }

-- 1500 1 5 dropped keepalive-unknown
abbrev pub entry11 : Event
entry11 = Frame 1 5 frame11 (Dropped (cause.plain rule.KeepaliveUnknown))

pub entry11_is_right : verdicts.IsRight C (state.tables_of C J11) 1 frame11 (Dropped (cause.plain rule.KeepaliveUnknown))
unfolding eth.decoded fc.decoded reading.decoded heard.carried heard.is_flogi heard.decoded capsule.decoded crc.crc crc.remainder els.decoded ct.decoded zones.joined rules.rule_for verdicts.judged
entry11_is_right = refl

abbrev pub J12 : Journal
J12 = entry11 ∷ J11

-- 1600 tick
abbrev pub entry12 : Event
entry12 = Tick 1600 []

abbrev pub J13 : Journal
J13 = entry12 ∷ J12

abbrev pub frame13 : Caught
frame13 = record { bytes = bytes (codes "00051e0000020efc00010100810000648914100000030001000700000202001b2100000a0b050efc00010100000101002000001b2100000a"); whole = true }

-- 1600 2 0 dropped keepalive-unknown
abbrev pub entry13 : Event
entry13 = Frame 2 0 frame13 (Dropped (cause.plain rule.KeepaliveUnknown))

pub entry13_is_right : verdicts.IsRight C (state.tables_of C J13) 2 frame13 (Dropped (cause.plain rule.KeepaliveUnknown))
unfolding eth.decoded fc.decoded reading.decoded heard.carried heard.is_flogi heard.decoded capsule.decoded crc.crc crc.remainder els.decoded ct.decoded zones.joined rules.rule_for verdicts.judged
entry13_is_right = refl

abbrev pub J14 : Journal
J14 = entry13 ∷ J13

abbrev pub frame14 : Caught
frame14 = record { bytes = bytes (codes "00051e000002001b2100000a810000648914100000030001000200000202001b2100000a"); whole = true }

-- 1600 2 1 dropped keepalive-unknown
abbrev pub entry14 : Event
entry14 = Frame 2 1 frame14 (Dropped (cause.plain rule.KeepaliveUnknown))

pub entry14_is_right : verdicts.IsRight C (state.tables_of C J14) 2 frame14 (Dropped (cause.plain rule.KeepaliveUnknown))
unfolding eth.decoded fc.decoded reading.decoded heard.carried heard.is_flogi heard.decoded capsule.decoded crc.crc crc.remainder els.decoded ct.decoded zones.joined rules.rule_for verdicts.judged
entry14_is_right = refl

abbrev pub J15 : Journal
J15 = entry14 ∷ J14

-- 1700 tick
abbrev pub entry15 : Event
entry15 = Tick 1700 []

abbrev pub J16 : Journal
J16 = entry15 ∷ J15

abbrev pub frame16 : Caught
frame16 = record { bytes = bytes (codes "00051e0000020efc00010100810000648914100000030001000700000202001b2100000a0b050efc00010100000101002000001b2100000a"); whole = true }

-- 1700 1 6 alive 010100
abbrev pub entry16 : Event
entry16 = Frame 1 6 frame16 (AlivePort 0x010100)

pub entry16_is_right : verdicts.IsRight C (state.tables_of C J16) 1 frame16 (AlivePort 0x010100)
unfolding eth.decoded fc.decoded reading.decoded heard.carried heard.is_flogi heard.decoded capsule.decoded crc.crc crc.remainder els.decoded ct.decoded zones.joined rules.rule_for verdicts.judged
entry16_is_right = refl

abbrev pub J17 : Journal
J17 = entry16 ∷ J16

pub logins_at_the_end : map {B = List ℕ} (λ p. p.address ∷ p.name ∷ p.values.node_name ∷ p.enode.port ∷ p.node_heard ∷ p.port_heard ∷ unwrap_or p.server 0 ∷ p.watch ∷ []) (state.tables_of C J17).ports ≡ (0x010100 ∷ 0x2000001b2100000a ∷ 0x1000001b21000001 ∷ 1 ∷ 1000 ∷ 1700 ∷ 0 ∷ 0 ∷ []) ∷ []
unfolding eth.decoded fc.decoded reading.decoded heard.carried heard.is_flogi ct.decoded
logins_at_the_end = refl

pub type_maps : map {B = List ℕ} (λ p. p.values.types.0) (state.tables_of C J17).ports ≡ (0x00000000 ∷ 0x00000000 ∷ 0x00000000 ∷ 0x00000000 ∷ 0x00000000 ∷ 0x00000000 ∷ 0x00000000 ∷ 0x00000000 ∷ []) ∷ []
unfolding eth.decoded fc.decoded reading.decoded heard.carried heard.is_flogi ct.decoded
type_maps = refl

pub lines : text.text J17 ≡ codes "journal 2\n1000 tick\n1000 1 0 granted 010100\n1100 tick\n1100 1 1 dropped keepalive-unknown\n1200 tick\n1200 1 2 dropped keepalive-unknown\n1300 tick\n1300 1 3 dropped keepalive-unknown\n1400 tick\n1400 1 4 dropped keepalive-unknown\n1500 tick\n1500 1 5 dropped keepalive-unknown\n1600 tick\n1600 2 0 dropped keepalive-unknown\n1600 2 1 dropped keepalive-unknown\n1700 tick\n1700 1 6 alive 010100\n"
unfolding text.text fmt.digits
lines = refl
