-- The frames that the forwarder makes (FC-BB-5, "FIP operations" and "FCoE frame format"; FC-LS-2; FC-GS-6). Choices
-- that the standards leave open are this project's profile.
use Rattle.std.specs.Prelude.{ℕ, ◌+◌, min, Bool, true, false, ◌==◌, if◌then◌else◌, List, [], ◌∷◌, ◌++◌, length, drop, Option, Some, None, Ok, Err}
use Rattle.fab_base.specs.Layout.{spelled, zeros, padded}
use Rattle.fab_base.specs.declared.values.Caught.{Caught}
use Rattle.fab_config.specs.Settings.{Settings}
use Rattle.eth_frames.specs.Ethernet as eth
use Rattle.fc_frames.specs.Frame as fc
use Rattle.fc_frames.specs.Pieces.{pieces}
use Rattle.fc_frames.specs.declared.FcHeader.{FcHeader}
use Rattle.fcoe_codec.specs.Fcoe as capsule
use Rattle.fip_codec.specs.Message as fip
use Rattle.fip_codec.specs.Reading as reading
use Rattle.fip_codec.specs.declared.message.LoginKind.{LoginKind}
use Rattle.fip_codec.specs.declared.message.LoginKind.TheVariants.{Flogi}
use Rattle.fip_codec.specs.declared.message.VxPort.{VxPort}
use Rattle.els_messages.specs.Els as els
use Rattle.els_messages.specs.declared.LoginParms.{LoginParms}
use Rattle.ct_messages.specs.Answer as ct
use Rattle.ct_messages.specs.declared.CtTell.{CtTell}
use Rattle.heard_frames.specs.Heard.{FIP, FCOE, carried, asked, source, s_id, d_id, login_of}
use Rattle.fab_policy.specs.Logins.{granted_mac}
use Rattle.heard_frames.specs.Rows.{ALL_ENODES}
use Rattle.fab_policy.specs.Rules.{CONTROLLER, NAME_SERVER}
use Rattle.fab_policy.specs.Queries.{fport}

-- ---- Ethernet

-- the tag of a frame that the forwarder makes: priority 3 and the VLAN (IEEE 802.1Q)
abbrev pub own_tag : Settings → Option ℕ
own_tag c = Some (0x6000 + c.vlan)

-- a frame that the forwarder makes
abbrev pub made : Settings → Option ℕ → List ℕ → ℕ → List ℕ → List ℕ
made c tag dst kind body = eth.written (record { dst = dst; src = c.fcf_mac; tag = tag; kind = kind; body = body })

abbrev pub made_fip : Settings → List ℕ → fip.Fip → List ℕ
made_fip c dst m = made c (own_tag c) dst FIP (fip.written m)

abbrev pub made_fcoe : Settings → List ℕ → ℕ → ℕ → fc.Frame → List ℕ
made_fcoe c dst sof eof f = made c (own_tag c) dst FCOE (capsule.written (record { sof = sof; eof = eof; frame = f }))

-- ---- FC headers

-- a header with CS_CTL, SEQ_ID, DF_CTL and Parameter 0 and RX_ID FFFF
abbrev pub header : ℕ → ℕ → ℕ → ℕ → ℕ → ℕ → ℕ → FcHeader
header r_ctl d_id s_id kind f_ctl seq_cnt ox_id = record {
  r_ctl = r_ctl;
  d_id = d_id;
  cs_ctl = 0;
  s_id = s_id;
  kind = kind;
  f_ctl = f_ctl;
  seq_id = 0;
  df_ctl = 0;
  seq_cnt = seq_cnt;
  ox_id = ox_id;
  rx_id = 0xffff;
  parameter = 0;
}

-- the exchange originator's only frame; the responder's last frame, and an earlier one (FC-FS-3, "F_CTL")
abbrev pub F_CTL_REQUEST : ℕ
F_CTL_REQUEST = 0x290000

abbrev pub F_CTL_LAST : ℕ
F_CTL_LAST = 0x980000

abbrev pub F_CTL_EARLIER : ℕ
F_CTL_EARLIER = 0x900000

-- Whom a reply answers: the MAC that sent a frame, and what a reply takes over of the header that the frame carries.
pub record Asker : Type 0 where
  pub mac : List ℕ
  pub d_id : ℕ
  pub s_id : ℕ
  pub ox_id : ℕ

abbrev pub asker_of : Caught → Asker
asker_of caught = record { mac = source caught; d_id = d_id caught; s_id = s_id caught; ox_id = (carried caught).head.ox_id }

-- a reply of an extended link service to an address, from the address that was asked
abbrev pub els_reply : Asker → ℕ → els.Els → fc.Frame
els_reply to d_id v = record { head = header 0x23 d_id to.d_id 0x01 F_CTL_LAST 0 to.ox_id; payload = els.written v }

-- ---- accepts of logins

-- what the accept of a FLOGI or FDISC says: a fabric port, and several addresses where they were asked for
abbrev pub fabric_parms : Settings → ℕ → Bool → LoginParms
fabric_parms c port several = record {
  features = 0x1000 + (if several then 0x2000 else 0);
  size = 0x840;
  ra_tov = 0x2710;
  ed_tov = 0x7d0;
  port_name = fport c port;
  node_name = c.switch;
  class3 = 0x88 ∷ 0 ∷ zeros 14;
}

-- what the accept of a login to the name server says
abbrev pub server_parms : Settings → LoginParms
server_parms c = record {
  features = 0;
  size = 0x840;
  ra_tov = 0xff0000;
  ed_tov = 0x7d0;
  port_name = fport c 0;
  node_name = c.switch;
  class3 = 0x80 ∷ 0 ∷ 0 ∷ 0 ∷ 0 ∷ 0 ∷ 0x08 ∷ 0x40 ∷ 0x00 ∷ 0xff ∷ 0 ∷ 0 ∷ 0 ∷ 1 ∷ 0 ∷ 0 ∷ [];
}

-- ---- replies in FIP, to the sender of a frame

abbrev pub kind_asked : Caught → LoginKind
kind_asked caught = elim (login_of caught) [ Some login ↦ login.0 | None ↦ Flogi ]

abbrev pub reply_in_fip : Settings → Asker → LoginKind → ℕ → els.Els → Option (List ℕ) → List ℕ
reply_in_fip c to kind d_id v mac = made_fip c to.mac (fip.LoginReply kind true (fc.frame_bytes (els_reply to d_id v)) mac)

-- the accept of a login goes to the granted address, with the granted MAC
abbrev pub accept_to : Settings → ℕ → Asker → LoginKind → Bool → ℕ → List ℕ
accept_to c port to kind several a = reply_in_fip c to kind a (els.LoginAccept (fabric_parms c port several)) (Some (granted_mac c a))

abbrev pub login_accept : Settings → ℕ → Caught → ℕ → List ℕ
login_accept c port caught a = accept_to c port (asker_of caught) (kind_asked caught) (els.has_feature 0x8000 (asked caught)) a

-- another reply to a login goes to its S_ID
abbrev pub login_reply_to : Settings → Asker → LoginKind → els.Els → List ℕ
login_reply_to c to kind v = reply_in_fip c to kind to.s_id v None

abbrev pub login_reply : Settings → Caught → els.Els → List ℕ
login_reply c caught v = login_reply_to c (asker_of caught) (kind_asked caught) v

-- the frame has no tag, or one with VLAN number 0
abbrev pub is_untagged : Caught → Bool
is_untagged caught = elim (eth.decoded caught.bytes) [ Ok f ↦ eth.vlan_of_tag f.tag == 0 | Err e ↦ true ]

-- a VLAN notification to a MAC, with or without a tag
abbrev pub notice_to : Settings → List ℕ → Bool → List ℕ
notice_to c dst untagged = made c (if untagged then None else own_tag c) dst FIP (fip.written (fip.VlanTell c.fcf_mac (c.vlan ∷ [])))

-- the answer to a VLAN request, without a tag where the request has none
abbrev pub vlan_notice : Settings → Caught → List ℕ
vlan_notice c caught = notice_to c (source caught) (is_untagged caught)

abbrev pub advertisement : Settings → Bool → fip.Fip
advertisement c solicited = fip.Advertise solicited true true true c.priority c.fcf_mac c.switch c.fc_map c.switch false c.period

-- an advertisement to all ENodes
abbrev pub advertised_to_all : Settings → List ℕ
advertised_to_all c = made_fip c ALL_ENODES (advertisement c false)

-- the size that a solicitation asks for
abbrev pub size_in : List ℕ → ℕ
size_in body = elim (reading.decoded body) [ Ok (fip.Solicit from_fcf fp mac name size) ↦ size | _ ↦ 0 ]

abbrev pub size_asked : Caught → ℕ
size_asked caught = elim (eth.decoded caught.bytes) [ Err e ↦ 0 | Ok f ↦ size_in f.body ]

-- a solicited advertisement to a MAC, with zeros up to a size
abbrev pub advertised_to : Settings → List ℕ → ℕ → List ℕ
advertised_to c dst size = made c (own_tag c) dst FIP (padded (min size 2158) (fip.written (advertisement c true)))

-- the answer to a solicitation, of the size that it asks for
abbrev pub advertised_to_one : Settings → Caught → List ℕ
advertised_to_one c caught = advertised_to c (source caught) (size_asked caught)

-- ---- replies in FCoE, to the sender of a frame

abbrev pub service_reply_to : Settings → Asker → els.Els → List ℕ
service_reply_to c to v = made_fcoe c to.mac capsule.SOF_I3 capsule.EOF_T (els_reply to to.s_id v)

abbrev pub service_reply : Settings → Caught → els.Els → List ℕ
service_reply c caught v = service_reply_to c (asker_of caught) v

-- one frame of a reply of the common transport: the first begins the sequence, and the last ends it
abbrev pub ct_frame : Settings → Asker → ℕ → Bool → List ℕ → List ℕ
ct_frame c to count last payload =
    made_fcoe c to.mac (if count == 0 then capsule.SOF_I3 else capsule.SOF_N3) (if last then capsule.EOF_T else capsule.EOF_N)
    (record { head = header 0x03 to.s_id NAME_SERVER 0x20 (if last then F_CTL_LAST else F_CTL_EARLIER) count to.ox_id; payload = payload })

abbrev pub ct_frames : Settings → Asker → ℕ → List (List ℕ) → List (List ℕ)
ct_frames c to count [] = []
ct_frames c to count (l ∷ []) = ct_frame c to count true l ∷ []
ct_frames c to count (l ∷ k ∷ more) = ct_frame c to count false l ∷ ct_frames c to (count + 1) (k ∷ more)

-- an answer in frames of at most this size
abbrev pub ct_reply : Settings → Caught → ℕ → CtTell → List (List ℕ)
ct_reply c caught size answer = let l = ct.written answer in ct_frames c (asker_of caught) 0 (pieces (length l) size l)

-- ---- other frames

-- a frame goes on with the destination's granted MAC and the forwarder's as source, and every other byte unchanged
abbrev pub forwarded : Settings → Caught → List ℕ
forwarded c caught = granted_mac c (d_id caught) ++ c.fcf_mac ++ drop 12 caught.bytes

-- a clear link message to an ENode
abbrev pub clear_links : Settings → List ℕ → List VxPort → List ℕ
clear_links c dst ports = made_fip c dst (fip.Clear c.fcf_mac c.switch ports)

-- a state change of an address, to a watcher (FC-LS-2, "RSCN"): one page of one port
abbrev pub rscn : Settings → ℕ → ℕ → ℕ → List ℕ
rscn c watcher affected ox_id =
    made_fcoe c (granted_mac c watcher) capsule.SOF_I3 capsule.EOF_T
    (record { head = header 0x22 watcher CONTROLLER 0x01 F_CTL_REQUEST 0 ox_id; payload = els.written (els.Rscn (0 ∷ spelled 3 affected)) })
