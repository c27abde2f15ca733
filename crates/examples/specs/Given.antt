-- The configuration and the frames of the worked examples.
use Rattle.std.specs.Prelude.{ℕ, ◌+◌, ◌-◌, ◌*◌, nat_lt, if◌then◌else◌, true, false, List, [], ◌∷◌, ◌++◌, None}
use Rattle.fab_base.specs.Layout.{zeros, spelled}
use Rattle.fab_base.specs.declared.values.Caught.{Caught}
use Rattle.fab_config.specs.Settings.{Settings}
use Rattle.fcoe_codec.specs.Fcoe as capsule
use Rattle.fip_codec.specs.Message as fip
use Rattle.fip_codec.specs.declared.message.LoginKind.TheVariants.{Logo}
use Rattle.fc_frames.specs.Frame as fc
use Rattle.fc_frames.specs.declared.FcHeader.{FcHeader}

abbrev pub MAC_A : List ℕ
MAC_A = 0x00 ∷ 0x1b ∷ 0x21 ∷ 0 ∷ 0 ∷ 0x0a ∷ []

abbrev pub MAC_B : List ℕ
MAC_B = 0x00 ∷ 0x1b ∷ 0x21 ∷ 0 ∷ 0 ∷ 0x0b ∷ []

abbrev pub MAC_C : List ℕ
MAC_C = 0x00 ∷ 0x1b ∷ 0x21 ∷ 0 ∷ 0 ∷ 0x0c ∷ []

abbrev pub FORWARDER : List ℕ
FORWARDER = 0x00 ∷ 0x05 ∷ 0x1e ∷ 0 ∷ 0 ∷ 2 ∷ []

-- the value of a hexadecimal digit in lower case, and the bytes that pairs of them spell
abbrev pub digit : ℕ → ℕ
digit d = if nat_lt d 58 then d - 48 else d - 87

abbrev pub bytes : List ℕ → List ℕ
bytes [] = []
bytes (h ∷ []) = []
bytes (h ∷ l ∷ more) = (16 * digit h + digit l) ∷ bytes more

-- the defaults, with these zones' members joined at all times
abbrev pub K : Settings
K = record {
  switch = 0x100000051e000002;
  fcf_mac = FORWARDER;
  fc_map = 0x0efc00;
  vlan = 100;
  domain = 1;
  pool = 256;
  priority = 128;
  period = 8000;
  window = 100;
  limit = 240;
  zones = [];
  sets = [];
  activations = [];
}

-- a captured frame that is whole
abbrev pub whole : List ℕ → Caught
whole bytes = record { bytes = bytes; whole = true }

-- an untagged VLAN request of A to all forwarders, 60 bytes
abbrev pub vlan_request : Caught
vlan_request = whole
    (0x01 ∷ 0x10 ∷ 0x18 ∷ 0x01 ∷ 0 ∷ 2 ∷ MAC_A ++ 0x89 ∷ 0x14 ∷ 0x10 ∷ 0 ∷ 0 ∷ 4 ∷ 0 ∷ 1 ∷ 0 ∷ 2 ∷ 0 ∷ 0 ∷ 2 ∷ 2 ∷ MAC_A ++ zeros 28)

-- the FLOGI of an ENode with these names, 162 bytes with the forwarder's tag
abbrev pub login_request : ℕ → ℕ → List ℕ → ℕ → ℕ → Caught
login_request kind command mac name node = whole
    (FORWARDER ++ mac ++ 0x81 ∷ 0 ∷ 0 ∷ 0x64 ∷ 0x89 ∷ 0x14 ∷ 0x10 ∷ 0 ∷ 0 ∷ 2 ∷ 0 ∷ 1 ∷ 0 ∷ 0x26 ∷ 0x80 ∷ 0 ∷ kind ∷ 0x24 ∷ 0 ∷ 0 ∷
    0x22 ∷ 0xff ∷ 0xff ∷ 0xfe ∷ 0 ∷ 0 ∷ 0 ∷ 0 ∷ 1 ∷ 0x29 ∷ 0 ∷ 0 ∷ 0 ∷ 0 ∷ 0 ∷ 0 ∷ 0 ∷ 1 ∷ 0xff ∷ 0xff ∷ 0 ∷ 0 ∷ 0 ∷ 0 ∷
    command ∷ 0 ∷ 0 ∷ 0 ∷ 0x20 ∷ 0x20 ∷ 0 ∷ 0 ∷ 0x80 ∷ 0 ∷ 0x08 ∷ 0x40 ∷ zeros 8 ++ spelled 8 name ++ spelled 8 node ++ zeros 32
    ++ 0x80 ∷ zeros 47 ++ 2 ∷ 2 ∷ zeros 6)

abbrev pub flogi : List ℕ → ℕ → ℕ → Caught
flogi mac name node = login_request 7 4 mac name node

abbrev pub NAME_A : ℕ
NAME_A = 0x2000001b2100000a

abbrev pub NODE_A : ℕ
NODE_A = 0x1000001b2100000a

abbrev pub NAME_B : ℕ
NAME_B = 0x2000001b2100000b

abbrev pub NODE_B : ℕ
NODE_B = 0x1000001b2100000b

abbrev pub NAME_C : ℕ
NAME_C = 0x2000001b2100000c

abbrev pub NODE_C : ℕ
NODE_C = 0x1000001b2100000c

abbrev pub flogi_a : Caught
flogi_a = flogi MAC_A NAME_A NODE_A

abbrev pub flogi_b : Caught
flogi_b = flogi MAC_B NAME_B NODE_B

abbrev pub flogi_c : Caught
flogi_c = flogi MAC_C NAME_C NODE_C

-- a data frame of the forwarder's VLAN from a source to the forwarder
abbrev pub in_vlan : List ℕ → ℕ → List ℕ → Caught
in_vlan src kind body = whole (FORWARDER ++ src ++ 0x81 ∷ 0 ∷ 0 ∷ 0x64 ∷ spelled 2 kind ++ body)

-- zone z of A and B at all times; the pool is small, since each step computes the past of all its addresses
abbrev pub WITH_ZONE : Settings
WITH_ZONE = record K { zones = record { name = 0x7a ∷ []; members = NAME_A ∷ NAME_B ∷ [] } ∷ [] }

-- the granted MAC of an address
abbrev pub mac_of : ℕ → List ℕ
mac_of a = 0x0e ∷ 0xfc ∷ 0 ∷ spelled 3 a

-- a state change registration of function 3 from an address
abbrev pub scr : ℕ → Caught
scr a = in_vlan (mac_of a) 0x8906
    (capsule.written (record { sof = 0x2e; eof = 0x42; frame = record { head = request_head a 0xfffffd; payload = 0x62 ∷ 0 ∷ 0 ∷ 0 ∷ 0 ∷ 0 ∷ 0 ∷ 3 ∷ [] } }))
  where
    request_head : ℕ → ℕ → FcHeader
    request_head s_id d_id = record {
      r_ctl = 0x22;
      d_id = d_id;
      cs_ctl = 0;
      s_id = s_id;
      kind = 1;
      f_ctl = 0x290000;
      seq_id = 0;
      df_ctl = 0;
      seq_cnt = 0;
      ox_id = 2;
      rx_id = 0xffff;
      parameter = 0;
    }

-- a FIP message in the VLAN from a MAC
abbrev pub in_fip : List ℕ → fip.Fip → Caught
in_fip src m = in_vlan src 0x8914 (fip.written m)

-- the LOGO of an address
abbrev pub logo : List ℕ → ℕ → ℕ → Caught
logo mac a name = in_fip mac (fip.Login Logo true (fc.header_bytes (head a) ++ 5 ∷ 0 ∷ 0 ∷ 0 ∷ 0 ∷ spelled 3 a ++ spelled 8 name) (mac_of a))
  where
    head : ℕ → FcHeader
    head s_id = record {
      r_ctl = 0x22;
      d_id = 0xfffffe;
      cs_ctl = 0;
      s_id = s_id;
      kind = 1;
      f_ctl = 0x290000;
      seq_id = 0;
      df_ctl = 0;
      seq_cnt = 0;
      ox_id = 3;
      rx_id = 0xffff;
      parameter = 0;
    }

-- another name of A, and its request
abbrev pub NAME_A2 : ℕ
NAME_A2 = 0x2000001b2100001a

abbrev pub fdisc_a : Caught
fdisc_a = login_request 8 0x51 MAC_A NAME_A2 NODE_A

abbrev pub alive : List ℕ → Caught
alive mac = in_fip mac (fip.Keep mac None)

abbrev pub solicitation : List ℕ → Caught
solicitation mac = in_fip mac (fip.Solicit false true mac NODE_B 2158)

-- a data frame of FCP without payload, from an address to another
abbrev pub data_head : ℕ → ℕ → FcHeader
data_head s_id d_id = record {
  r_ctl = 1;
  d_id = d_id;
  cs_ctl = 0;
  s_id = s_id;
  kind = 8;
  f_ctl = 0x290000;
  seq_id = 0;
  df_ctl = 0;
  seq_cnt = 0;
  ox_id = 9;
  rx_id = 0xffff;
  parameter = 0;
}

abbrev pub fcp : ℕ → ℕ → Caught
fcp s_id d_id = in_vlan (mac_of s_id) 0x8906 (capsule.written (record { sof = 0x2e; eof = 0x42; frame = record { head = data_head s_id d_id; payload = [] } }))
