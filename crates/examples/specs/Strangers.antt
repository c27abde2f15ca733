-- Frames of nodes of which none has logged in: requests and solicitations are answered, and each other frame is dropped by the
-- first rule that holds, or refused.
use Rattle.std.specs.Prelude.{◌≡◌, ℕ, false, List, [], ◌∷◌, ◌++◌, None, Some, refl}
use Rattle.fab_base.specs.Layout.{zeros}
use Rattle.fab_base.specs.declared.values.Caught.{Caught}
use Rattle.heard_frames.specs.Heard as heard
use Rattle.fab_policy.specs.Cause as cause
use Rattle.fab_policy.specs.Rules as rules
use Rattle.heard_frames.specs.Rows as rows
use Rattle.fab_policy.specs.State as state
use Rattle.fab_policy.specs.Verdicts as verdicts
use Rattle.fab_policy.specs.declared.event.Event.TheVariants.{Tick}
use Rattle.fab_policy.specs.declared.verdict.Verdict.{Verdict}
use Rattle.fab_policy.specs.declared.verdict.Verdict.TheVariants.{Vlans, Advertised, Rejected, Dropped}
use Rattle.fab_policy.specs.declared.verdict.Rule.{Rule}
use Rattle.fab_policy.specs.declared.verdict.Rule.TheVariants as rule
use Rattle.eth_frames.specs.Ethernet as eth
use Rattle.fc_check.specs.Crc as crc
use Rattle.fc_frames.specs.Frame as fc
use Rattle.fcoe_codec.specs.Fcoe as capsule
use Rattle.fip_codec.specs.Message as fip
use Rattle.fip_codec.specs.Reading as reading
use Rattle.els_messages.specs.Els as els
use Rattle.examples.specs.Given.{K, FORWARDER, MAC_A, MAC_B, NODE_A, whole, vlan_request, solicitation, flogi_a, logo, NAME_A, alive, fcp, scr, in_fip}

-- a rule without a number
abbrev pub drops : Rule → Verdict
drops r = Dropped (cause.plain r)

-- after the first tick, on port 1
abbrev pub is_judged : Caught → verdicts.Judgement
is_judged caught = verdicts.judged K (state.tables_of K (Tick 1000 [] ∷ [])) 1 caught

-- ---- whom the forwarder answers

pub request_is_answered : is_judged vlan_request ≡ verdicts.Must Vlans
unfolding verdicts.judged rules.rule_for heard.decoded eth.decoded reading.decoded
request_is_answered = refl

pub solicitation_is_answered : is_judged (solicitation MAC_A) ≡ verdicts.Must Advertised
unfolding verdicts.judged rules.rule_for heard.decoded eth.decoded reading.decoded fip.written
solicitation_is_answered = refl

-- ---- what needs a login

pub logo_is_refused : is_judged (logo MAC_A 0x010100 NAME_A) ≡ verdicts.Must (Rejected 3 0)
unfolding verdicts.judged rules.rule_for heard.decoded heard.carried eth.decoded reading.decoded fc.decoded els.decoded fip.written
logo_is_refused = refl

pub keep_alive_is_unknown : is_judged (alive MAC_A) ≡ verdicts.Must (drops rule.KeepaliveUnknown)
unfolding verdicts.judged rules.rule_for heard.decoded heard.carried eth.decoded reading.decoded fc.decoded els.decoded fip.written
keep_alive_is_unknown = refl

-- the keep alive of a VN_Port comes from its granted MAC, which no rule on the frame compares with the ENode's
abbrev pub vn_port_alive : Caught
vn_port_alive = in_fip (0x0e ∷ 0xfc ∷ 0 ∷ 1 ∷ 1 ∷ 0 ∷ []) (fip.Keep MAC_A (Some (record { mac = 0x0e ∷ 0xfc ∷ 0 ∷ 1 ∷ 1 ∷ 0 ∷ []; address = 0x010100; name = NAME_A })))

pub vn_port_alive_is_unknown : is_judged vn_port_alive ≡ verdicts.Must (drops rule.KeepaliveUnknown)
unfolding verdicts.judged rules.rule_for heard.decoded heard.carried eth.decoded reading.decoded fc.decoded els.decoded fip.written
vn_port_alive_is_unknown = refl

pub data_has_no_source : is_judged (fcp 0x010100 0x010101) ≡ verdicts.Must (drops rule.SourceLogin)
unfolding verdicts.judged rules.rule_for heard.decoded heard.carried eth.decoded reading.decoded fc.decoded els.decoded capsule.decoded capsule.written crc.crc crc.remainder
data_has_no_source = refl

pub service_has_no_source : is_judged (scr 0x010100) ≡ verdicts.Must (drops rule.SourceLogin)
unfolding verdicts.judged rules.rule_for heard.decoded heard.carried eth.decoded reading.decoded fc.decoded els.decoded capsule.decoded capsule.written crc.crc crc.remainder
service_has_no_source = refl

-- a body of FCoE that can't be read: 42 bytes are too few
abbrev pub no_fcoe : Caught
no_fcoe = whole (FORWARDER ++ MAC_A ++ 0x81 ∷ 0 ∷ 0 ∷ 0x64 ∷ 0x89 ∷ 0x06 ∷ zeros 42)

pub short_fcoe : is_judged no_fcoe ≡ verdicts.Must (drops rule.FcoeLength)
unfolding verdicts.judged rules.rule_for heard.decoded eth.decoded capsule.decoded crc.crc crc.remainder
short_fcoe = refl

-- ---- rules on the frame itself come first

-- a keep alive of A on VLAN 101, and on none
abbrev pub alive_on : List ℕ → Caught
alive_on tag = whole (FORWARDER ++ MAC_A ++ tag ++ 0x89 ∷ 0x14 ∷ fip.written (fip.Keep MAC_A None))

pub keep_alive_of_another_vlan : is_judged (alive_on (0x81 ∷ 0 ∷ 0 ∷ 0x65 ∷ [])) ≡ verdicts.Must (drops rule.Vlan)
unfolding verdicts.judged rules.rule_for heard.decoded eth.decoded reading.decoded fip.written
keep_alive_of_another_vlan = refl

pub keep_alive_without_vlan : is_judged (alive_on []) ≡ verdicts.Must (drops rule.Vlan)
unfolding verdicts.judged rules.rule_for heard.decoded eth.decoded reading.decoded fip.written
keep_alive_without_vlan = refl

-- to all forwarders, which is for solicitations and VLAN requests alone
pub keep_alive_to_all : is_judged (whole (rows.ALL_FCFS ++ MAC_A ++ 0x81 ∷ 0 ∷ 0 ∷ 0x64 ∷ 0x89 ∷ 0x14 ∷ fip.written (fip.Keep MAC_A None))) ≡ verdicts.Must (drops rule.FipDest)
unfolding verdicts.judged rules.rule_for heard.decoded eth.decoded reading.decoded fip.written
keep_alive_to_all = refl

-- a clear link message, which only a forwarder sends
pub clear_link : is_judged (in_fip MAC_A (fip.Clear MAC_A NODE_A [])) ≡ verdicts.Must (drops rule.FipRole)
unfolding verdicts.judged rules.rule_for heard.decoded eth.decoded reading.decoded fip.written
clear_link = refl

-- B's keep alive in A's name
pub keep_alive_of_another : is_judged (in_fip MAC_B (fip.Keep MAC_A None)) ≡ verdicts.Must (drops rule.FipMac)
unfolding verdicts.judged rules.rule_for heard.decoded eth.decoded reading.decoded fip.written
keep_alive_of_another = refl

-- an FCoE frame on VLAN 101
pub fcoe_of_another_vlan : is_judged (whole (FORWARDER ++ MAC_A ++ 0x81 ∷ 0 ∷ 0 ∷ 0x65 ∷ 0x89 ∷ 0x06 ∷ zeros 42)) ≡ verdicts.Must (drops rule.Vlan)
unfolding verdicts.judged rules.rule_for heard.decoded eth.decoded capsule.decoded crc.crc crc.remainder
fcoe_of_another_vlan = refl

-- a login of which a part is missing in the capture
pub cut_login : is_judged (record { bytes = flogi_a.bytes; whole = false }) ≡ verdicts.Must (drops rule.Truncated)
unfolding verdicts.judged rules.rule_for heard.decoded
cut_login = refl

-- neither FIP nor FCoE
pub other_ethertype : is_judged (whole (FORWARDER ++ MAC_A ++ 0x08 ∷ 0 ∷ zeros 46)) ≡ verdicts.Must (drops rule.Ethertype)
unfolding verdicts.judged rules.rule_for heard.decoded eth.decoded
other_ethertype = refl
