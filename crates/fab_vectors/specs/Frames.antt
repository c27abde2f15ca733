-- The bytes of the frames of a load, by the definitions of the codecs.
use Rattle.std.specs.Prelude.{ℕ, ◌+◌, ◌*◌, ◌/◌, ◌%◌, ◌==◌, if◌then◌else◌, true, false, List, ◌∷◌, Option, Some, None}
use Rattle.fab_base.specs.Layout.{zeros}
use Rattle.eth_frames.specs.Ethernet as eth
use Rattle.fip_codec.specs.Message as fip
use Rattle.fip_codec.specs.declared.message.LoginKind.{LoginKind}
use Rattle.fip_codec.specs.declared.message.LoginKind.TheVariants.{Flogi, Fdisc}
use Rattle.fc_frames.specs.Frame as fc
use Rattle.fc_frames.specs.declared.FcHeader.{FcHeader}
use Rattle.fcoe_codec.specs.Fcoe as capsule
use Rattle.els_messages.specs.Els as els
use Rattle.els_messages.specs.declared.LoginParms.{LoginParms}
use Rattle.ct_messages.specs.Ct as ct
use Rattle.fab_vectors.specs.Names.{numbered, node_mac, node_name, port_name, address, granted_mac, FORWARDER, ALL_FORWARDERS}
use Rattle.fab_vectors.specs.declared.frame.LoadFrame.{LoadFrame}
use Rattle.fab_vectors.specs.declared.frame.LoadFrame.TheVariants as row
use Rattle.fab_vectors.specs.declared.frame.Step.{Step}
use Rattle.fab_vectors.specs.declared.frame.Step.TheVariants.{Fabric, Server, Watch, Register, Query}

-- ---- FIP, from the ENode of a port

-- the tag of VLAN 100
abbrev pub TAG : ℕ
TAG = 0x64

abbrev pub fip_frame : Option ℕ → List ℕ → ℕ → fip.Fip → List ℕ
fip_frame tag dst port message =
    eth.written (record { dst = dst; src = node_mac port; tag = tag; kind = 0x8914; body = fip.written message })

abbrev pub vlan_request : ℕ → List ℕ
vlan_request port = fip_frame None ALL_FORWARDERS port (fip.VlanAsk (node_mac port) None)

abbrev pub solicitation : ℕ → List ℕ
solicitation port = fip_frame (Some TAG) ALL_FORWARDERS port (fip.Solicit false true (node_mac port) (node_name port) 2158)

abbrev pub keep_alive : ℕ → List ℕ
keep_alive port = fip_frame (Some TAG) FORWARDER port (fip.Keep (node_mac port) None)

-- ---- headers and payloads

-- a request: F_CTL 290000, RX_ID FFFF, and 0 in all fields that are not named
abbrev pub header : ℕ → ℕ → ℕ → ℕ → ℕ → FcHeader
header r_ctl d_id s_id kind ox_id = record {
  r_ctl = r_ctl;
  d_id = d_id;
  cs_ctl = 0;
  s_id = s_id;
  kind = kind;
  f_ctl = 0x290000;
  seq_id = 0;
  df_ctl = 0;
  seq_cnt = 0;
  ox_id = ox_id;
  rx_id = 0xffff;
  parameter = 0;
}

-- the parameters of a login: a receive size of 2112 bytes, and class 3
abbrev pub parms : ℕ → ℕ → ℕ → LoginParms
parms features port login = record {
  features = features;
  size = 0x840;
  ra_tov = 0;
  ed_tov = 0;
  port_name = port_name port login;
  node_name = node_name port;
  class3 = 0x80 ∷ zeros 15;
}

-- ---- the fabric login of a login: FLOGI of the first, FDISC of the others

abbrev pub login_kind : ℕ → LoginKind
login_kind login = if login == 0 then Flogi else Fdisc

abbrev pub login_request : ℕ → ℕ → els.Els
login_request port login = if login == 0 then els.Flogi (parms 0x8000 port login) else els.Fdisc (parms 0x8000 port login)

-- the frame that the FIP message carries, from address 0
abbrev pub carried : ℕ → ℕ → List ℕ
carried port login =
    fc.frame_bytes (record { head = header 0x22 0xfffffe 0 0x01 (login + 1); payload = els.written (login_request port login) })

abbrev pub fabric_login : ℕ → ℕ → List ℕ
fabric_login port login = fip_frame (Some TAG) FORWARDER port (fip.Login (login_kind login) true (carried port login) (zeros 6))

-- ---- FCoE, from a granted address

-- a frame between SOFi3 and EOFt
abbrev pub fcoe_frame : FcHeader → List ℕ → List ℕ
fcoe_frame head payload =
    eth.written (record {
      dst = FORWARDER;
      src = granted_mac head.s_id;
      tag = Some TAG;
      kind = 0x8906;
      body = capsule.written (record { sof = capsule.SOF_I3; eof = capsule.EOF_T; frame = record { head = head; payload = payload } });
    })

-- to the name server (FFFFFC): its login, a registration of type 08 alone, and a query for type 08
abbrev pub server_login : ℕ → ℕ → List ℕ
server_login port login = fcoe_frame (header 0x22 0xfffffc (address port login) 0x01 1) (els.written (els.Plogi (parms 0 port login)))

abbrev pub registration : ℕ → ℕ → List ℕ
registration port login =
    fcoe_frame (header 0x02 0xfffffc (address port login) 0x20 3) (ct.written (ct.SetTypes (address port login) (record { 0 = 0x100 ∷ zeros 7 })))

abbrev pub query : ℕ → ℕ → List ℕ
query port login = fcoe_frame (header 0x02 0xfffffc (address port login) 0x20 4) (ct.written (ct.AddressesOfType 8))

-- to the fabric controller (FFFFFD): all state changes are to be told
abbrev pub watch : ℕ → ℕ → List ℕ
watch port login = fcoe_frame (header 0x22 0xfffffd (address port login) 0x01 2) (els.written (els.Scr 3))

abbrev pub login_frame : ℕ → Step → ℕ → List ℕ
login_frame port Fabric login = fabric_login port login
login_frame port Server login = server_login port login
login_frame port Watch login = watch port login
login_frame port Register login = registration port login
login_frame port Query login = query port login

-- ---- data, by the 32 bits that are drawn for a frame

-- which login of the port it is from
abbrev pub sender : ℕ → ℕ
sender drawn = drawn % 30

-- which port it goes to, and which login there: each eighth frame goes to the next login, which shares no zone with the sender
abbrev pub target_port : ℕ → ℕ
target_port drawn = drawn / 30 % 8 + 1

abbrev pub target : ℕ → ℕ
target drawn = if drawn / 240 % 8 == 0 then (sender drawn + 1) % 30 else sender drawn

-- 0 to 528 words, whose bytes count on from the number that was drawn
abbrev pub payload_length : ℕ → ℕ
payload_length drawn = 4 * (drawn / 1920 % 529)

unfoldable pub payload : ℕ → List ℕ
payload drawn = numbered (λ place. (drawn + place) % 256) 0 (payload_length drawn)

-- so many bytes that count on from 0, of which each payload is a part; the longest one ends before this place
unfoldable pub counted : ℕ → List ℕ
counted count = numbered (λ place. place % 256) 0 count

abbrev pub COUNTED : ℕ
COUNTED = 2368

abbrev pub data_frame : ℕ → ℕ → ℕ → List ℕ
data_frame port ox_id drawn =
    fcoe_frame (header 0x01 (address (target_port drawn) (target drawn)) (address port (sender drawn)) 0x08 ox_id) (payload drawn)

-- ---- each frame of a port

unfoldable pub frame_bytes : ℕ → LoadFrame → List ℕ
frame_bytes port row.VlanRequest = vlan_request port
frame_bytes port row.Solicitation = solicitation port
frame_bytes port (row.Login step login) = login_frame port step login
frame_bytes port (row.KeepAlive turn) = keep_alive port
frame_bytes port (row.Data ox_id drawn) = data_frame port ox_id drawn
