-- Login frames that are not what their descriptor announces.
use Rattle.std.specs.Prelude.{◌≡◌, ℕ, unwrap_or, true, List, [], ◌∷◌, ◌++◌, refl, map, codes}
use Rattle.fab_base.specs.declared.values.Caught.{Caught}
use Rattle.fab_config.specs.Settings.{Settings}
use Rattle.fab_policy.specs.State as state
use Rattle.fab_policy.specs.Verdicts as verdicts
use Rattle.fab_policy.specs.Rules as rules
use Rattle.heard_frames.specs.Heard as heard
use Rattle.fab_policy.specs.Cause as cause
use Rattle.fab_policy.specs.declared.event.Event.{Event}
use Rattle.fab_policy.specs.declared.event.Event.TheVariants.{Tick, Frame}
use Rattle.fab_policy.specs.declared.verdict.Verdict.TheVariants.{Dropped}
use Rattle.fab_policy.specs.declared.verdict.Rule.TheVariants as rule
use Rattle.eth_frames.specs.Ethernet as eth
use Rattle.fc_check.specs.Crc as crc
use Rattle.fc_frames.specs.Frame as fc
use Rattle.fcoe_codec.specs.Fcoe as capsule
use Rattle.fip_codec.specs.Reading as reading
use Rattle.els_messages.specs.Els as els
use Rattle.ct_messages.specs.Ct as ct
use Rattle.zone_rules.specs.Joined as zones
use Rattle.std.specs.Fmt as fmt
use Rattle.fab_policy.specs.Journal.{Journal}
use Rattle.fab_policy.specs.Text as text
use Rattle.fab_base.specs.Layout.{zeros}
use Rattle.examples.specs.Given.{bytes}

abbrev pub C : Settings
C = record { switch = 0x100000051e000002; fcf_mac = bytes (codes "00051e000002"); fc_map = 0xefc00; vlan = 100; domain = 1; pool = 4; priority = 128; period = 8000; window = 100; limit = 240; zones = []; sets = []; activations = [] }

abbrev pub J0 : Journal
J0 = []

-- 1000 tick
abbrev pub entry0 : Event
entry0 = Tick 1000 []

abbrev pub J1 : Journal
J1 = entry0 ∷ J0

abbrev pub frame1 : Caught
frame1 = record { bytes = (bytes (codes "00051e000002001b2100000a810000648914100000020001002580000723000022fffffe0000000001290000000000000001ffff00000000040000002020000080000840") ++ zeros 8 ++ bytes (codes "2000001b2100000a0000000000000001") ++ zeros 32 ++ (128 ∷ []) ++ zeros 43 ++ bytes (codes "0202000000000000")); whole = true }

-- 1000 1 0 dropped els-short
abbrev pub entry1 : Event
entry1 = Frame 1 0 frame1 (Dropped (cause.plain rule.ElsShort))

pub entry1_is_right : verdicts.IsRight C (state.tables_of C J1) 1 frame1 (Dropped (cause.plain rule.ElsShort))
unfolding eth.decoded fc.decoded reading.decoded heard.carried heard.is_flogi heard.decoded capsule.decoded crc.crc crc.remainder els.decoded ct.decoded zones.joined rules.rule_for verdicts.judged
entry1_is_right = refl

abbrev pub J2 : Journal
J2 = entry1 ∷ J1

abbrev pub frame2 : Caught
frame2 = record { bytes = (bytes (codes "00051e000002001b2100000a810000648914100000020001002580000723000022fffffc0000000001290000000000000001ffff00000000040000002020000080000840") ++ zeros 8 ++ bytes (codes "2000001b2100000a0000000000000001") ++ zeros 32 ++ (128 ∷ []) ++ zeros 43 ++ bytes (codes "0202000000000000")); whole = true }

-- 1000 1 1 dropped els-short
abbrev pub entry2 : Event
entry2 = Frame 1 1 frame2 (Dropped (cause.plain rule.ElsShort))

pub entry2_is_right : verdicts.IsRight C (state.tables_of C J2) 1 frame2 (Dropped (cause.plain rule.ElsShort))
unfolding eth.decoded fc.decoded reading.decoded heard.carried heard.is_flogi heard.decoded capsule.decoded crc.crc crc.remainder els.decoded ct.decoded zones.joined rules.rule_for verdicts.judged
entry2_is_right = refl

abbrev pub J3 : Journal
J3 = entry2 ∷ J2

abbrev pub frame3 : Caught
frame3 = record { bytes = (bytes (codes "00051e000002001b2100000a810000648914100000020001002680000724000022fffffc0000000001290000000000000001ffff00000000040000002020000080000840") ++ zeros 8 ++ bytes (codes "2000001b2100000a1000001b21000001") ++ zeros 32 ++ (128 ∷ []) ++ zeros 47 ++ bytes (codes "0202000000000000")); whole = true }

-- 1000 1 2 dropped els-kind
abbrev pub entry3 : Event
entry3 = Frame 1 2 frame3 (Dropped (cause.plain rule.ElsKind))

pub entry3_is_right : verdicts.IsRight C (state.tables_of C J3) 1 frame3 (Dropped (cause.plain rule.ElsKind))
unfolding eth.decoded fc.decoded reading.decoded heard.carried heard.is_flogi heard.decoded capsule.decoded crc.crc crc.remainder els.decoded ct.decoded zones.joined rules.rule_for verdicts.judged
entry3_is_right = refl

abbrev pub J4 : Journal
J4 = entry3 ∷ J3

abbrev pub frame4 : Caught
frame4 = record { bytes = (bytes (codes "00051e000002001b2100000a810000648914100000020001002680000724000022fffffe0000000001290000000000000001ffff00000000510000002020000080000840") ++ zeros 8 ++ bytes (codes "2000001b2100000a1000001b21000001") ++ zeros 32 ++ (128 ∷ []) ++ zeros 47 ++ bytes (codes "0202000000000000")); whole = true }

-- 1000 1 3 dropped els-kind
abbrev pub entry4 : Event
entry4 = Frame 1 3 frame4 (Dropped (cause.plain rule.ElsKind))

pub entry4_is_right : verdicts.IsRight C (state.tables_of C J4) 1 frame4 (Dropped (cause.plain rule.ElsKind))
unfolding eth.decoded fc.decoded reading.decoded heard.carried heard.is_flogi heard.decoded capsule.decoded crc.crc crc.remainder els.decoded ct.decoded zones.joined rules.rule_for verdicts.judged
entry4_is_right = refl

abbrev pub J5 : Journal
J5 = entry4 ∷ J4

abbrev pub frame5 : Caught
frame5 = record { bytes = (bytes (codes "00051e000002001b2100000a810000648914100000020001002680000724000022fffffe0000000501290000000000000001ffff00000000040000002020000080000840") ++ zeros 8 ++ bytes (codes "2000001b2100000a1000001b21000001") ++ zeros 32 ++ (128 ∷ []) ++ zeros 47 ++ bytes (codes "0202000000000000")); whole = true }

-- 1000 1 4 dropped els-kind
abbrev pub entry5 : Event
entry5 = Frame 1 4 frame5 (Dropped (cause.plain rule.ElsKind))

pub entry5_is_right : verdicts.IsRight C (state.tables_of C J5) 1 frame5 (Dropped (cause.plain rule.ElsKind))
unfolding eth.decoded fc.decoded reading.decoded heard.carried heard.is_flogi heard.decoded capsule.decoded crc.crc crc.remainder els.decoded ct.decoded zones.joined rules.rule_for verdicts.judged
entry5_is_right = refl

abbrev pub J6 : Journal
J6 = entry5 ∷ J5

abbrev pub frame6 : Caught
frame6 = record { bytes = (bytes (codes "00051e000002001b2100000a810000648914100000020001002680000724000023fffffe0000000001290000000000000001ffff00000000040000002020000080000840") ++ zeros 8 ++ bytes (codes "2000001b2100000a1000001b21000001") ++ zeros 32 ++ (128 ∷ []) ++ zeros 47 ++ bytes (codes "0202000000000000")); whole = true }

-- 1000 1 5 dropped els-kind
abbrev pub entry6 : Event
entry6 = Frame 1 5 frame6 (Dropped (cause.plain rule.ElsKind))

pub entry6_is_right : verdicts.IsRight C (state.tables_of C J6) 1 frame6 (Dropped (cause.plain rule.ElsKind))
unfolding eth.decoded fc.decoded reading.decoded heard.carried heard.is_flogi heard.decoded capsule.decoded crc.crc crc.remainder els.decoded ct.decoded zones.joined rules.rule_for verdicts.judged
entry6_is_right = refl

abbrev pub J7 : Journal
J7 = entry6 ∷ J6

abbrev pub frame7 : Caught
frame7 = record { bytes = (bytes (codes "00051e000002001b2100000a810000648914100000020001002680000724000022fffffe0000000008290000000000000001ffff00000000040000002020000080000840") ++ zeros 8 ++ bytes (codes "2000001b2100000a1000001b21000001") ++ zeros 32 ++ (128 ∷ []) ++ zeros 47 ++ bytes (codes "0202000000000000")); whole = true }

-- 1000 1 6 dropped els-kind
abbrev pub entry7 : Event
entry7 = Frame 1 6 frame7 (Dropped (cause.plain rule.ElsKind))

pub entry7_is_right : verdicts.IsRight C (state.tables_of C J7) 1 frame7 (Dropped (cause.plain rule.ElsKind))
unfolding eth.decoded fc.decoded reading.decoded heard.carried heard.is_flogi heard.decoded capsule.decoded crc.crc crc.remainder els.decoded ct.decoded zones.joined rules.rule_for verdicts.judged
entry7_is_right = refl

abbrev pub J8 : Journal
J8 = entry7 ∷ J7

abbrev pub frame8 : Caught
frame8 = record { bytes = (bytes (codes "00051e000002001b2100000a810000648914100000020001000d8000070b000022fffffe0000000001290000000000000001ffff0000000005") ++ zeros 15 ++ bytes (codes "0202000000000000")); whole = true }

-- 1000 1 7 dropped els-kind
abbrev pub entry8 : Event
entry8 = Frame 1 7 frame8 (Dropped (cause.plain rule.ElsKind))

pub entry8_is_right : verdicts.IsRight C (state.tables_of C J8) 1 frame8 (Dropped (cause.plain rule.ElsKind))
unfolding eth.decoded fc.decoded reading.decoded heard.carried heard.is_flogi heard.decoded capsule.decoded crc.crc crc.remainder els.decoded ct.decoded zones.joined rules.rule_for verdicts.judged
entry8_is_right = refl

abbrev pub J9 : Journal
J9 = entry8 ∷ J8

abbrev pub frame9 : Caught
frame9 = record { bytes = (bytes (codes "00051e000002001b2100000a810000648914100000020001000c8000090a000022fffffe0000000001290000000000000001ffff0000000005") ++ zeros 11 ++ bytes (codes "0202000000000000")); whole = true }

-- 1000 1 8 dropped els-short
abbrev pub entry9 : Event
entry9 = Frame 1 8 frame9 (Dropped (cause.plain rule.ElsShort))

pub entry9_is_right : verdicts.IsRight C (state.tables_of C J9) 1 frame9 (Dropped (cause.plain rule.ElsShort))
unfolding eth.decoded fc.decoded reading.decoded heard.carried heard.is_flogi heard.decoded capsule.decoded crc.crc crc.remainder els.decoded ct.decoded zones.joined rules.rule_for verdicts.judged
entry9_is_right = refl

abbrev pub J10 : Journal
J10 = entry9 ∷ J9

abbrev pub frame10 : Caught
frame10 = record { bytes = (bytes (codes "00051e000002001b2100000a810000648914100000020001002680000724000022fffffe0000000001290000000000000001ffff0000000061040004") ++ zeros 112 ++ bytes (codes "0202000000000000")); whole = true }

-- 1000 1 9 dropped els-short
abbrev pub entry10 : Event
entry10 = Frame 1 9 frame10 (Dropped (cause.plain rule.ElsShort))

pub entry10_is_right : verdicts.IsRight C (state.tables_of C J10) 1 frame10 (Dropped (cause.plain rule.ElsShort))
unfolding eth.decoded fc.decoded reading.decoded heard.carried heard.is_flogi heard.decoded capsule.decoded crc.crc crc.remainder els.decoded ct.decoded zones.joined rules.rule_for verdicts.judged
entry10_is_right = refl

abbrev pub J11 : Journal
J11 = entry10 ∷ J10

abbrev pub frame11 : Caught
frame11 = record { bytes = bytes (codes "00051e000002001b2100000a810000648914100000020001000a80000708000022fffffe0000000001290000000000000001ffff00000000620000000202000000000000"); whole = true }

-- 1000 1 10 dropped els-short
abbrev pub entry11 : Event
entry11 = Frame 1 10 frame11 (Dropped (cause.plain rule.ElsShort))

pub entry11_is_right : verdicts.IsRight C (state.tables_of C J11) 1 frame11 (Dropped (cause.plain rule.ElsShort))
unfolding eth.decoded fc.decoded reading.decoded heard.carried heard.is_flogi heard.decoded capsule.decoded crc.crc crc.remainder els.decoded ct.decoded zones.joined rules.rule_for verdicts.judged
entry11_is_right = refl

abbrev pub J12 : Journal
J12 = entry11 ∷ J11

pub logins_at_the_end : map {B = List ℕ} (λ p. p.address ∷ p.name ∷ p.values.node_name ∷ p.enode.port ∷ p.node_heard ∷ p.port_heard ∷ unwrap_or p.server 0 ∷ p.watch ∷ []) (state.tables_of C J12).ports ≡ []
unfolding eth.decoded fc.decoded reading.decoded heard.carried heard.is_flogi ct.decoded
logins_at_the_end = refl

pub type_maps : map {B = List ℕ} (λ p. p.values.types.0) (state.tables_of C J12).ports ≡ []
unfolding eth.decoded fc.decoded reading.decoded heard.carried heard.is_flogi ct.decoded
type_maps = refl

pub lines : text.text J12 ≡ codes "journal 2\n1000 tick\n1000 1 0 dropped els-short\n1000 1 1 dropped els-short\n1000 1 2 dropped els-kind\n1000 1 3 dropped els-kind\n1000 1 4 dropped els-kind\n1000 1 5 dropped els-kind\n1000 1 6 dropped els-kind\n1000 1 7 dropped els-kind\n1000 1 8 dropped els-short\n1000 1 9 dropped els-short\n1000 1 10 dropped els-short\n"
unfolding text.text fmt.digits
lines = refl
