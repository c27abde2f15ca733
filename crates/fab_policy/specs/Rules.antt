-- Which frames are dropped, and by which rule: the first of an ordered table whose condition holds (FC-BB-5, "FIP
-- operations" and "FCoE forwarding"; the table is this project's profile).
use Rattle.std.specs.Prelude.{ℕ, Bool, true, false, not, ◌==◌, nat_lt, ◌&&◌, ◌||◌, List, [], ◌∷◌, length, Option, Some, None, is_some, Ok, Err, ◌++◌}
use Rattle.std.specs.List.{list_any}
use Rattle.fab_base.specs.Fabric.{same_enode}
use Rattle.fab_base.specs.declared.values.Caught.{Caught}
use Rattle.fab_config.specs.Settings.{Settings, same_bytes}
use Rattle.zone_rules.specs.Joined as zones
use Rattle.eth_frames.specs.Ethernet as eth
use Rattle.fc_frames.specs.Frame as fc
use Rattle.fcoe_codec.specs.Fcoe as capsule
use Rattle.fcoe_codec.specs.declared.FcoeFault.{FcoeFault}
use Rattle.fcoe_codec.specs.declared.FcoeFault.TheVariants as fault
use Rattle.fip_codec.specs.Message as fip
use Rattle.fip_codec.specs.declared.message.LoginKind.{LoginKind}
use Rattle.fip_codec.specs.declared.message.LoginKind.TheVariants.{Flogi, Fdisc, Logo}
use Rattle.els_messages.specs.Els as els
use Rattle.fab_policy.specs.Cause.{Cause, plain, cause_of_unreadable}
use Rattle.heard_frames.specs.Heard.{What, Bad, Fip, Fcoe, sender, source, fc_of}
use Rattle.heard_frames.specs.Rows.{first_row, is_wrong_vlan, ALL_FCFS}
use Rattle.fab_policy.specs.Logins.{granted_mac}
use Rattle.fab_policy.specs.State.{Tables, LivePort, now_of, port_at}
use Rattle.fab_policy.specs.declared.verdict.Rule.TheVariants as rule

-- ---- addresses of the standards

-- the fabric port, the fabric controller, the name server, and the least address of a service
abbrev pub FABRIC_PORT : ℕ
FABRIC_PORT = 0xfffffe

abbrev pub CONTROLLER : ℕ
CONTROLLER = 0xfffffd

abbrev pub NAME_SERVER : ℕ
NAME_SERVER = 0xfffffc

abbrev pub SERVICES : ℕ
SERVICES = 0xff0000

-- R_CTL and TYPE of extended link services and of the common transport
abbrev pub is_els_request : fc.Frame → Bool
is_els_request f = f.head.r_ctl == 0x22 && f.head.kind == 0x01

abbrev pub is_els_reply : fc.Frame → Bool
is_els_reply f = f.head.r_ctl == 0x23 && f.head.kind == 0x01

abbrev pub is_ct_request : fc.Frame → Bool
is_ct_request f = f.head.r_ctl == 0x02 && f.head.kind == 0x20

-- ---- questions about the logins

-- two names are joined at the clock
abbrev pub joined : Settings → Tables → ℕ → ℕ → Bool
joined c T x y = zones.joined c.zones c.sets c.activations (now_of T) x y

-- the ENode has a live login
abbrev pub is_known : Settings → Tables → ℕ → Caught → Bool
is_known c T port caught = list_any (λ p. same_enode p.enode (sender port caught)) T.ports

abbrev pub holds : (LivePort → Bool) → Option LivePort → Bool
holds test None = false
holds test (Some p) = test p

-- ---- rows of FIP messages

abbrev pub is_vlan_request : fip.Fip → Bool
is_vlan_request (fip.VlanAsk _ _) = true
is_vlan_request _ = false

abbrev pub is_solicitation : fip.Fip → Bool
is_solicitation (fip.Solicit _ _ _ _ _) = true
is_solicitation _ = false

-- the MAC that a solicitation, a VLAN request or an ENode's keep alive names for its sender
abbrev pub named_mac : fip.Fip → Option (List ℕ)
named_mac (fip.Solicit _ _ mac _ _) = Some mac
named_mac (fip.VlanAsk mac _) = Some mac
named_mac (fip.Keep mac None) = Some mac
named_mac _ = None

-- the link service of a login's frame can't be read
abbrev pub is_unreadable : fip.Fip → Bool
is_unreadable (fip.Login kind fp l mac) = elim (els.decoded (fc_of l).payload) [ Ok v ↦ false | Err f ↦ true ]
is_unreadable _ = false

-- the command of a descriptor's kind
abbrev pub command_of : LoginKind → ℕ
command_of Flogi = 0x04
command_of Fdisc = 0x51
command_of Logo = 0x05

abbrev pub is_logo : LoginKind → Bool
is_logo Logo = true
is_logo _ = false

-- the frame isn't the request to the fabric port that its descriptor announces, or a FLOGI or FDISC has an S_ID
abbrev pub is_misplaced : LoginKind → fc.Frame → Bool
is_misplaced kind f =
    not (is_els_request f && f.head.d_id == FABRIC_PORT && command_in f.payload == command_of kind && (is_logo kind || f.head.s_id == 0))
  where
    -- the command of a link service; an empty payload has none, and 256 is no byte
    command_in : List ℕ → ℕ
    command_in [] = 256
    command_in (b ∷ _) = b

abbrev pub is_wrong_login : fip.Fip → Bool
is_wrong_login (fip.Login kind fp l mac) = is_misplaced kind (fc_of l)
is_wrong_login _ = false

-- a keep alive of nobody who is logged in
abbrev pub is_keepalive_unknown : Settings → Tables → ℕ → Caught → fip.Fip → Bool
is_keepalive_unknown c T port caught (fip.Keep mac None) = not (is_known c T port caught)
is_keepalive_unknown c T port caught (fip.Keep mac (Some vx)) =
    not (holds (λ p. p.enode.port == port && p.name == vx.name && same_bytes p.enode.mac mac
    && same_bytes (granted_mac c vx.address) vx.mac && same_bytes (granted_mac c vx.address) (source caught)) (port_at vx.address T.ports))
is_keepalive_unknown c T port caught _ = false

-- the frame is to the forwarder, or to all forwarders and of a kind that may be
abbrev pub is_to_forwarder : Settings → eth.Eth → fip.Fip → Bool
is_to_forwarder c f m = same_bytes f.dst c.fcf_mac || ((is_solicitation m || is_vlan_request m) && same_bytes f.dst ALL_FCFS)

-- the message names another MAC than the frame's source
abbrev pub names_another : eth.Eth → fip.Fip → Bool
names_another f m = elim (named_mac m) [ None ↦ false | Some mac ↦ not (same_bytes mac f.src) ]

-- the rows on the frame itself: its VLAN (a VLAN request may be untagged), its destination, who may send it, and whom it names
abbrev pub fip_frame_rows : Settings → eth.Eth → fip.Fip → List (Bool × Cause)
fip_frame_rows c f m =
    (is_wrong_vlan c.vlan f (is_vlan_request m), plain rule.Vlan)
    ∷ (not (is_to_forwarder c f m), plain rule.FipDest)
    ∷ (fip.is_forwarders m, plain rule.FipRole)
    ∷ (names_another f m, plain rule.FipMac)
    ∷ []

-- the first rule on the frame itself that drops it, or none
abbrev pub frame_rule : Settings → What → Option Cause
frame_rule c (Bad fault) = Some (cause_of_unreadable fault)
frame_rule c (Fip f m) = first_row (fip_frame_rows c f m)
frame_rule c (Fcoe f read) = first_row ((is_wrong_vlan c.vlan f false, plain rule.Vlan) ∷ [])

-- the rows on what it carries and on who is logged in
abbrev pub fip_login_rows : Settings → Tables → ℕ → Caught → fip.Fip → List (Bool × Cause)
fip_login_rows c T port caught m =
    (is_unreadable m, plain rule.ElsShort) ∷ (is_wrong_login m, plain rule.ElsKind) ∷ (is_keepalive_unknown c T port caught m, plain rule.KeepaliveUnknown) ∷ []

abbrev pub fip_rows : Settings → Tables → ℕ → Caught → eth.Eth → fip.Fip → List (Bool × Cause)
fip_rows c T port caught f m = fip_frame_rows c f m ++ fip_login_rows c T port caught m

-- ---- rows of FCoE frames

abbrev pub rule_of : FcoeFault → Cause
rule_of fault.Length = plain rule.FcoeLength
rule_of fault.Version = plain rule.FcoeVersion
rule_of fault.Sof = plain rule.FcoeSof
rule_of fault.Eof = plain rule.FcoeEof
rule_of (fault.Crc found made) = plain rule.FcoeCrc

-- SOFi3 or SOFn3, and EOFn or EOFt
abbrev pub is_class3 : capsule.Fcoe → Bool
is_class3 f = (f.sof == capsule.SOF_I3 || f.sof == capsule.SOF_N3) && (f.eof == capsule.EOF_N || f.eof == capsule.EOF_T)

-- a whole sequence in one frame
abbrev pub is_one_frame : capsule.Fcoe → Bool
is_one_frame f = f.sof == capsule.SOF_I3 && f.eof == capsule.EOF_T

abbrev pub is_service : ℕ → Bool
is_service d_id = d_id == NAME_SERVER || d_id == CONTROLLER

-- what a service takes: a request or reply of extended link services, and the name server requests of the common transport
abbrev pub is_for_service : capsule.Fcoe → Bool
is_for_service f =
    is_one_frame f && (is_els_request f.frame || is_els_reply f.frame || (f.frame.head.d_id == NAME_SERVER && is_ct_request f.frame))

abbrev pub is_bad_els : fc.Frame → Bool
is_bad_els f = is_els_request f && elim (els.decoded f.payload) [ Ok v ↦ false | Err e ↦ true ]

-- the rows of a frame whose body was read; b is the S_ID and d the D_ID
abbrev pub fcoe_rows : Settings → Tables → ℕ → eth.Eth → capsule.Fcoe → List (Bool × Cause)
fcoe_rows c T port f x =
    let b = x.frame.head.s_id in
    let d = x.frame.head.d_id in
    let to_port = nat_lt d SERVICES in
    (not (is_class3 x), plain rule.FcoeClass)
    ∷ (not (same_bytes f.dst c.fcf_mac), plain rule.FcoeDest)
    ∷ (not (same_bytes f.src (granted_mac c b)), plain rule.SourceMac)
    ∷ (not (is_some (port_at b T.ports)), plain rule.SourceLogin)
    ∷ (not (holds (λ p. p.enode.port == port) (port_at b T.ports)), plain rule.SourcePort)
    ∷ (not to_port && not (is_service d), plain rule.ServiceAddress)
    ∷ (is_service d && not (is_for_service x), plain rule.ServiceFrame)
    ∷ (is_service d && is_bad_els x.frame, plain rule.ElsShort)
    ∷ (is_service d && is_ct_request x.frame && nat_lt (length x.frame.payload) 16, plain rule.CtShort)
    ∷ (to_port && d == b, plain rule.OwnAddress)
    ∷ (to_port && not (is_some (port_at d T.ports)), plain rule.DestLogin)
    ∷ (to_port && not (holds (λ p. holds (λ q. joined c T p.name q.name) (port_at d T.ports)) (port_at b T.ports)), plain rule.Zone)
    ∷ []

-- The rule by which a frame of a port is dropped, or none.
unfoldable pub rule_for : Settings → Tables → ℕ → Caught → What → Option Cause
rule_for c T port caught (Bad fault) = Some (cause_of_unreadable fault)
rule_for c T port caught (Fip f m) = first_row (fip_rows c T port caught f m)
rule_for c T port caught (Fcoe f (Err e)) = first_row ((is_wrong_vlan c.vlan f false, plain rule.Vlan) ∷ (true, rule_of e) ∷ [])
rule_for c T port caught (Fcoe f (Ok x)) = first_row ((is_wrong_vlan c.vlan f false, plain rule.Vlan) ∷ fcoe_rows c T port f x)
