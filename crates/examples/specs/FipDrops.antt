-- FIP frames that are dropped, each by the first rule that holds.
use Rattle.std.specs.Prelude.{◌≡◌, ℕ, unwrap_or, true, List, [], ◌∷◌, ◌++◌, refl, map, codes}
use Rattle.fab_base.specs.declared.values.Caught.{Caught}
use Rattle.fab_config.specs.Settings.{Settings}
use Rattle.fab_policy.specs.State as state
use Rattle.fab_policy.specs.Verdicts as verdicts
use Rattle.fab_policy.specs.Rules as rules
use Rattle.heard_frames.specs.Heard as heard
use Rattle.fab_policy.specs.Cause as cause
use Rattle.fab_policy.specs.declared.event.Event.{Event}
use Rattle.fab_policy.specs.declared.event.Event.TheVariants.{Tick, Frame}
use Rattle.fab_policy.specs.declared.verdict.Verdict.TheVariants.{Dropped}
use Rattle.fab_policy.specs.declared.verdict.Rule.TheVariants as rule
use Rattle.eth_frames.specs.Ethernet as eth
use Rattle.fc_check.specs.Crc as crc
use Rattle.fc_frames.specs.Frame as fc
use Rattle.fcoe_codec.specs.Fcoe as capsule
use Rattle.fip_codec.specs.Reading as reading
use Rattle.els_messages.specs.Els as els
use Rattle.ct_messages.specs.Ct as ct
use Rattle.zone_rules.specs.Joined as zones
use Rattle.std.specs.Fmt as fmt
use Rattle.fab_policy.specs.Journal.{Journal}
use Rattle.fab_policy.specs.Text as text
use Rattle.fab_base.specs.Layout.{zeros}
use Rattle.examples.specs.Given.{bytes}

abbrev pub C : Settings
C = record { switch = 0x100000051e000002; fcf_mac = bytes (codes "00051e000002"); fc_map = 0xefc00; vlan = 100; domain = 1; pool = 4; priority = 128; period = 8000; window = 100; limit = 240; zones = []; sets = []; activations = [] }

abbrev pub J0 : Journal
J0 = []

-- 1000 tick
abbrev pub entry0 : Event
entry0 = Tick 1000 []

abbrev pub J1 : Journal
J1 = entry0 ∷ J0

abbrev pub frame1 : Caught
frame1 = record { bytes = bytes (codes "011018010002001b2100000a810000c88914100000040001000200000202001b2100000a"); whole = true }

-- 1000 1 0 dropped vlan
abbrev pub entry1 : Event
entry1 = Frame 1 0 frame1 (Dropped (cause.plain rule.Vlan))

pub entry1_is_right : verdicts.IsRight C (state.tables_of C J1) 1 frame1 (Dropped (cause.plain rule.Vlan))
unfolding eth.decoded fc.decoded reading.decoded heard.carried heard.is_flogi heard.decoded capsule.decoded crc.crc crc.remainder els.decoded ct.decoded zones.joined rules.rule_for verdicts.judged
entry1_is_right = refl

abbrev pub J2 : Journal
J2 = entry1 ∷ J1

abbrev pub frame2 : Caught
frame2 = record { bytes = bytes (codes "011018010002001b2100000a810000008914100000040001000200000202001b2100000b"); whole = true }

-- 1000 1 1 dropped fip-mac
abbrev pub entry2 : Event
entry2 = Frame 1 1 frame2 (Dropped (cause.plain rule.FipMac))

pub entry2_is_right : verdicts.IsRight C (state.tables_of C J2) 1 frame2 (Dropped (cause.plain rule.FipMac))
unfolding eth.decoded fc.decoded reading.decoded heard.carried heard.is_flogi heard.decoded capsule.decoded crc.crc crc.remainder els.decoded ct.decoded zones.joined rules.rule_for verdicts.judged
entry2_is_right = refl

abbrev pub J3 : Journal
J3 = entry2 ∷ J2

abbrev pub frame3 : Caught
frame3 = record { bytes = bytes (codes "011018010002001b2100000a8914100000010001000680000202001b2100000a040300002000001b2100000a06010028"); whole = true }

-- 1000 1 2 dropped vlan
abbrev pub entry3 : Event
entry3 = Frame 1 2 frame3 (Dropped (cause.plain rule.Vlan))

pub entry3_is_right : verdicts.IsRight C (state.tables_of C J3) 1 frame3 (Dropped (cause.plain rule.Vlan))
unfolding eth.decoded fc.decoded reading.decoded heard.carried heard.is_flogi heard.decoded capsule.decoded crc.crc crc.remainder els.decoded ct.decoded zones.joined rules.rule_for verdicts.judged
entry3_is_right = refl

abbrev pub J4 : Journal
J4 = entry3 ∷ J3

abbrev pub frame4 : Caught
frame4 = record { bytes = (bytes (codes "011018010002001b2100000a810000648914100000020001002680000724000022fffffe0000000001290000000000000001ffff00000000040000002020000080000840") ++ zeros 8 ++ bytes (codes "2000001b2100000a1000001b21000001") ++ zeros 32 ++ (128 ∷ []) ++ zeros 47 ++ bytes (codes "0202000000000000")); whole = true }

-- 1000 1 3 dropped fip-dest
abbrev pub entry4 : Event
entry4 = Frame 1 3 frame4 (Dropped (cause.plain rule.FipDest))

pub entry4_is_right : verdicts.IsRight C (state.tables_of C J4) 1 frame4 (Dropped (cause.plain rule.FipDest))
unfolding eth.decoded fc.decoded reading.decoded heard.carried heard.is_flogi heard.decoded capsule.decoded crc.crc crc.remainder els.decoded ct.decoded zones.joined rules.rule_for verdicts.judged
entry4_is_right = refl

abbrev pub J5 : Journal
J5 = entry4 ∷ J4

abbrev pub frame5 : Caught
frame5 = record { bytes = bytes (codes "011018010002001b2100000a810000648914100000010001000680010202001b2100000a040300002000001b2100000a06010028"); whole = true }

-- 1000 1 4 dropped fip-role
abbrev pub entry5 : Event
entry5 = Frame 1 4 frame5 (Dropped (cause.plain rule.FipRole))

pub entry5_is_right : verdicts.IsRight C (state.tables_of C J5) 1 frame5 (Dropped (cause.plain rule.FipRole))
unfolding eth.decoded fc.decoded reading.decoded heard.carried heard.is_flogi heard.decoded capsule.decoded crc.crc crc.remainder els.decoded ct.decoded zones.joined rules.rule_for verdicts.judged
entry5_is_right = refl

abbrev pub J6 : Journal
J6 = entry5 ∷ J5

abbrev pub frame6 : Caught
frame6 = record { bytes = bytes (codes "00051e000002001b2100000a810000648914100000030002000500000202001b2100000a040300002000001b2100000a"); whole = true }

-- 1000 1 5 dropped fip-role
abbrev pub entry6 : Event
entry6 = Frame 1 5 frame6 (Dropped (cause.plain rule.FipRole))

pub entry6_is_right : verdicts.IsRight C (state.tables_of C J6) 1 frame6 (Dropped (cause.plain rule.FipRole))
unfolding eth.decoded fc.decoded reading.decoded heard.carried heard.is_flogi heard.decoded capsule.decoded crc.crc crc.remainder els.decoded ct.decoded zones.joined rules.rule_for verdicts.judged
entry6_is_right = refl

abbrev pub J7 : Journal
J7 = entry6 ∷ J6

abbrev pub frame7 : Caught
frame7 = record { bytes = bytes (codes "011018010002001b2100000a810000648914100000040002000200000202001b2100000a"); whole = true }

-- 1000 1 6 dropped fip-dest
abbrev pub entry7 : Event
entry7 = Frame 1 6 frame7 (Dropped (cause.plain rule.FipDest))

pub entry7_is_right : verdicts.IsRight C (state.tables_of C J7) 1 frame7 (Dropped (cause.plain rule.FipDest))
unfolding eth.decoded fc.decoded reading.decoded heard.carried heard.is_flogi heard.decoded capsule.decoded crc.crc crc.remainder els.decoded ct.decoded zones.joined rules.rule_for verdicts.judged
entry7_is_right = refl

abbrev pub J8 : Journal
J8 = entry7 ∷ J7

abbrev pub frame8 : Caught
frame8 = record { bytes = bytes (codes "00051e000002001b2100000a810000648914100000040002000200000202001b2100000a"); whole = true }

-- 1000 1 7 dropped fip-role
abbrev pub entry8 : Event
entry8 = Frame 1 7 frame8 (Dropped (cause.plain rule.FipRole))

pub entry8_is_right : verdicts.IsRight C (state.tables_of C J8) 1 frame8 (Dropped (cause.plain rule.FipRole))
unfolding eth.decoded fc.decoded reading.decoded heard.carried heard.is_flogi heard.decoded capsule.decoded crc.crc crc.remainder els.decoded ct.decoded zones.joined rules.rule_for verdicts.judged
entry8_is_right = refl

abbrev pub J9 : Journal
J9 = entry8 ∷ J8

abbrev pub frame9 : Caught
frame9 = record { bytes = bytes (codes "00051e000002001b2100000a810000648914100000010002000a8005010100010202001b2100000a040300002000001b2100000a05040000000efc002000001b2100000a"); whole = true }

-- 1000 1 8 dropped fip-missing 12
abbrev pub entry9 : Event
entry9 = Frame 1 8 frame9 (Dropped (cause.numbered rule.FipMissing 12))

pub entry9_is_right : verdicts.IsRight C (state.tables_of C J9) 1 frame9 (Dropped (cause.numbered rule.FipMissing 12))
unfolding eth.decoded fc.decoded reading.decoded heard.carried heard.is_flogi heard.decoded capsule.decoded crc.crc crc.remainder els.decoded ct.decoded zones.joined rules.rule_for verdicts.judged
entry9_is_right = refl

abbrev pub J10 : Journal
J10 = entry9 ∷ J9

abbrev pub frame10 : Caught
frame10 = record { bytes = bytes (codes "011018010002001b2100000a81000064891410000001000100038000040300002000001b2100000a"); whole = true }

-- 1000 1 9 dropped fip-missing 2
abbrev pub entry10 : Event
entry10 = Frame 1 9 frame10 (Dropped (cause.numbered rule.FipMissing 2))

pub entry10_is_right : verdicts.IsRight C (state.tables_of C J10) 1 frame10 (Dropped (cause.numbered rule.FipMissing 2))
unfolding eth.decoded fc.decoded reading.decoded heard.carried heard.is_flogi heard.decoded capsule.decoded crc.crc crc.remainder els.decoded ct.decoded zones.joined rules.rule_for verdicts.judged
entry10_is_right = refl

abbrev pub J11 : Journal
J11 = entry10 ∷ J10

abbrev pub frame11 : Caught
frame11 = record { bytes = bytes (codes "00051e000002001b2100000a810000648914100000030001000200000202001b2100000b"); whole = true }

-- 1000 1 10 dropped fip-mac
abbrev pub entry11 : Event
entry11 = Frame 1 10 frame11 (Dropped (cause.plain rule.FipMac))

pub entry11_is_right : verdicts.IsRight C (state.tables_of C J11) 1 frame11 (Dropped (cause.plain rule.FipMac))
unfolding eth.decoded fc.decoded reading.decoded heard.carried heard.is_flogi heard.decoded capsule.decoded crc.crc crc.remainder els.decoded ct.decoded zones.joined rules.rule_for verdicts.judged
entry11_is_right = refl

abbrev pub J12 : Journal
J12 = entry11 ∷ J11

abbrev pub frame12 : Caught
frame12 = record { bytes = bytes (codes "00051e000002001b2100000a810000648914100000030001000200000202001b2100000a"); whole = true }

-- 1000 1 11 dropped keepalive-unknown
abbrev pub entry12 : Event
entry12 = Frame 1 11 frame12 (Dropped (cause.plain rule.KeepaliveUnknown))

pub entry12_is_right : verdicts.IsRight C (state.tables_of C J12) 1 frame12 (Dropped (cause.plain rule.KeepaliveUnknown))
unfolding eth.decoded fc.decoded reading.decoded heard.carried heard.is_flogi heard.decoded capsule.decoded crc.crc crc.remainder els.decoded ct.decoded zones.joined rules.rule_for verdicts.judged
entry12_is_right = refl

abbrev pub J13 : Journal
J13 = entry12 ∷ J12

abbrev pub frame13 : Caught
frame13 = record { bytes = (bytes (codes "00051e000002001b2100000a810000648914100000020001002480000724000022fffffe0000000001290000000000000001ffff00000000040000002020000080000840") ++ zeros 8 ++ bytes (codes "2000001b2100000a0000000000000001") ++ zeros 32 ++ (128 ∷ []) ++ zeros 47); whole = true }

-- 1000 1 12 dropped fip-missing 2
abbrev pub entry13 : Event
entry13 = Frame 1 12 frame13 (Dropped (cause.numbered rule.FipMissing 2))

pub entry13_is_right : verdicts.IsRight C (state.tables_of C J13) 1 frame13 (Dropped (cause.numbered rule.FipMissing 2))
unfolding eth.decoded fc.decoded reading.decoded heard.carried heard.is_flogi heard.decoded capsule.decoded crc.crc crc.remainder els.decoded ct.decoded zones.joined rules.rule_for verdicts.judged
entry13_is_right = refl

abbrev pub J14 : Journal
J14 = entry13 ∷ J13

abbrev pub frame14 : Caught
frame14 = record { bytes = bytes (codes "011018010002001b2100000a8914100000040001000800000202001b2100000a040300002000001b2100000a040300002000001b2100000b"); whole = true }

-- 1000 1 13 dropped fip-double 30
abbrev pub entry14 : Event
entry14 = Frame 1 13 frame14 (Dropped (cause.numbered rule.FipDouble 30))

pub entry14_is_right : verdicts.IsRight C (state.tables_of C J14) 1 frame14 (Dropped (cause.numbered rule.FipDouble 30))
unfolding eth.decoded fc.decoded reading.decoded heard.carried heard.is_flogi heard.decoded capsule.decoded crc.crc crc.remainder els.decoded ct.decoded zones.joined rules.rule_for verdicts.judged
entry14_is_right = refl

abbrev pub J15 : Journal
J15 = entry14 ∷ J14

abbrev pub frame15 : Caught
frame15 = record { bytes = bytes (codes "00051e000002001b2100000a810000648914100000030001000c00000202001b2100000a0b050efc00010100000101002000001b2100000a0b050efc00010100000101002000001b2100000a"); whole = true }

-- 1000 1 14 dropped fip-double 38
abbrev pub entry15 : Event
entry15 = Frame 1 14 frame15 (Dropped (cause.numbered rule.FipDouble 38))

pub entry15_is_right : verdicts.IsRight C (state.tables_of C J15) 1 frame15 (Dropped (cause.numbered rule.FipDouble 38))
unfolding eth.decoded fc.decoded reading.decoded heard.carried heard.is_flogi heard.decoded capsule.decoded crc.crc crc.remainder els.decoded ct.decoded zones.joined rules.rule_for verdicts.judged
entry15_is_right = refl

abbrev pub J16 : Journal
J16 = entry15 ∷ J15

pub logins_at_the_end : map {B = List ℕ} (λ p. p.address ∷ p.name ∷ p.values.node_name ∷ p.enode.port ∷ p.node_heard ∷ p.port_heard ∷ unwrap_or p.server 0 ∷ p.watch ∷ []) (state.tables_of C J16).ports ≡ []
unfolding eth.decoded fc.decoded reading.decoded heard.carried heard.is_flogi ct.decoded
logins_at_the_end = refl

pub type_maps : map {B = List ℕ} (λ p. p.values.types.0) (state.tables_of C J16).ports ≡ []
unfolding eth.decoded fc.decoded reading.decoded heard.carried heard.is_flogi ct.decoded
type_maps = refl

-- the same lines in format 1
pub lines1 : text.text1 J16 ≡ codes "tick 1000\n1 0 dropped vlan\n1 1 dropped fip-mac\n1 2 dropped vlan\n1 3 dropped fip-dest\n1 4 dropped fip-role\n1 5 dropped fip-role\n1 6 dropped fip-dest\n1 7 dropped fip-role\n1 8 dropped fip-missing 12\n1 9 dropped fip-missing 2\n1 10 dropped fip-mac\n1 11 dropped keepalive-unknown\n1 12 dropped fip-missing 2\n1 13 dropped fip-double 30\n1 14 dropped fip-double 38\n"
unfolding text.text1 fmt.digits
lines1 = refl

pub lines : text.text J16 ≡ codes "journal 2\n1000 tick\n1000 1 0 dropped vlan\n1000 1 1 dropped fip-mac\n1000 1 2 dropped vlan\n1000 1 3 dropped fip-dest\n1000 1 4 dropped fip-role\n1000 1 5 dropped fip-role\n1000 1 6 dropped fip-dest\n1000 1 7 dropped fip-role\n1000 1 8 dropped fip-missing 12\n1000 1 9 dropped fip-missing 2\n1000 1 10 dropped fip-mac\n1000 1 11 dropped keepalive-unknown\n1000 1 12 dropped fip-missing 2\n1000 1 13 dropped fip-double 30\n1000 1 14 dropped fip-double 38\n"
unfolding text.text fmt.digits
lines = refl
