-- FIP messages as values, and the one way in which the forwarder writes each (FC-BB-5, "FIP operations").
use Rattle.std.specs.Prelude.{ℕ, ◌+◌, ◌/◌, Bool, true, false, if◌then◌else◌, List, [], ◌∷◌, ◌++◌, length, flat_map, Option, Some, None}
use Rattle.std.specs.Borrow.{Bor}
use Rattle.fab_base.specs.Layout.{spelled, zeros}
use Rattle.fip_codec.specs.declared.message.LoginKind.{LoginKind}
use Rattle.fip_codec.specs.declared.message.LoginKind.TheVariants.{Flogi, Fdisc, Logo}
use Rattle.fip_codec.specs.declared.message.VxPort.{VxPort}
use Rattle.fip_codec.specs.declared.message.Message.{Message}
use Rattle.fip_codec.specs.declared.message.Message.TheVariants as code

-- A message: a MAC is a list of six bytes, a name and an address are numbers.
pub data Fip : Type 0 where
  Solicit : (from_fcf fp : Bool) (mac : List ℕ) (node size : ℕ) → Fip
  Advertise : (solicited available from_fcf fp : Bool) (priority : ℕ) (mac : List ℕ) (switch fc_map fabric : ℕ) (quiet : Bool) (period : ℕ) → Fip
  Login : (kind : LoginKind) (fp : Bool) (frame mac : List ℕ) → Fip
  LoginReply : (kind : LoginKind) (fp : Bool) (frame : List ℕ) (mac : Option (List ℕ)) → Fip
  Keep : (mac : List ℕ) (port : Option VxPort) → Fip
  Clear : (mac : List ℕ) (switch : ℕ) (ports : List VxPort) → Fip
  VlanAsk : (mac : List ℕ) (node : Option ℕ) → Fip
  VlanTell : (mac : List ℕ) (vlans : List ℕ) → Fip

-- a message of the code, by what its lists say
abbrev pub plain : {P V : Type 0} → (P → List VxPort) → (V → List ℕ) → Message P V → Fip
plain ports_of vlans_of (code.Solicit from_fcf fp mac node size) = Solicit from_fcf fp mac node size
plain ports_of vlans_of (code.Advertise solicited available from_fcf fp priority mac switch fc_map fabric quiet period) =
    Advertise solicited available from_fcf fp priority mac switch fc_map fabric quiet period
plain ports_of vlans_of (code.Login kind fp frame mac) = Login kind fp frame.now mac
plain ports_of vlans_of (code.LoginReply kind fp frame mac) = LoginReply kind fp frame.now mac
plain ports_of vlans_of (code.Keep mac port) = Keep mac port
plain ports_of vlans_of (code.Clear mac switch ports) = Clear mac switch (ports_of ports)
plain ports_of vlans_of (code.VlanAsk mac node) = VlanAsk mac node
plain ports_of vlans_of (code.VlanTell mac vlans) = VlanTell mac (vlans_of vlans)

-- what the code reads and writes, without where the bytes lie in memory
abbrev pub view : Message (List VxPort) (List ℕ) → Fip
view m = plain (λ ports. ports) (λ vlans. vlans) m

abbrev pub view_out : Message (Bor (List VxPort)) (Bor (List ℕ)) → Fip
view_out m = plain (λ ports. ports.now) (λ vlans. vlans.now) m

-- only a forwarder sends it (FC-BB-5, "FIP operations")
abbrev pub is_forwarders : Fip → Bool
is_forwarders (Advertise _ _ _ _ _ _ _ _ _ _ _) = true
is_forwarders (LoginReply _ _ _ _) = true
is_forwarders (Clear _ _ _) = true
is_forwarders (VlanTell _ _) = true
is_forwarders (Solicit from_fcf _ _ _ _) = from_fcf
is_forwarders _ = false

-- ---- written descriptors: type, length in words, and the rest

abbrev pub priority_bytes : ℕ → List ℕ
priority_bytes value = 1 ∷ 1 ∷ 0 ∷ value ∷ []

abbrev pub mac_bytes : List ℕ → List ℕ
mac_bytes mac = 2 ∷ 2 ∷ mac

abbrev pub name_bytes : ℕ → List ℕ
name_bytes name = 4 ∷ 3 ∷ zeros 2 ++ spelled 8 name

abbrev pub fabric_bytes : ℕ → ℕ → List ℕ
fabric_bytes fc_map fabric = 5 ∷ 4 ∷ zeros 3 ++ spelled 3 fc_map ++ spelled 8 fabric

abbrev pub size_bytes : ℕ → List ℕ
size_bytes size = 6 ∷ 1 ∷ spelled 2 size

abbrev pub kind_code : LoginKind → ℕ
kind_code Flogi = 7
kind_code Fdisc = 8
kind_code Logo = 9

abbrev pub frame_bytes : LoginKind → List ℕ → List ℕ
frame_bytes kind frame = kind_code kind ∷ (length frame / 4 + 1) ∷ zeros 2 ++ frame

abbrev pub vx_port_bytes : VxPort → List ℕ
vx_port_bytes p = 11 ∷ 5 ∷ p.mac ++ 0 ∷ spelled 3 p.address ++ spelled 8 p.name

abbrev pub advertising_bytes : Bool → ℕ → List ℕ
advertising_bytes quiet period = 12 ∷ 2 ∷ 0 ∷ (if quiet then 1 else 0) ∷ spelled 4 period

abbrev pub vlan_bytes : ℕ → List ℕ
vlan_bytes number = 14 ∷ 1 ∷ spelled 2 number

abbrev pub if_there : {X : Type 0} → (X → List ℕ) → Option X → List ℕ
if_there bytes None = []
if_there bytes (Some x) = bytes x

-- ---- written messages

-- the value of a flag where it is set
abbrev pub flag : ℕ → Bool → ℕ
flag value set = if set then value else 0

-- version 1, operation, subcode, length of the list in words, flags
abbrev pub head_bytes : ℕ → ℕ → ℕ → ℕ → List ℕ
head_bytes operation subcode flags words =
    0x10 ∷ 0 ∷ spelled 2 operation ++ 0 ∷ subcode ∷ spelled 2 words ++ spelled 2 flags

-- header and list
abbrev pub message_bytes : ℕ → ℕ → ℕ → List ℕ → List ℕ
message_bytes operation subcode flags list = head_bytes operation subcode flags (length list / 4) ++ list

-- A written message: reserved bytes are 0, and the descriptors stand in the order of the table.
unfoldable pub written : Fip → List ℕ
written (Solicit from_fcf fp mac node size) =
    message_bytes 1 1 (flag 0x8000 fp + flag 1 from_fcf) (mac_bytes mac ++ name_bytes node ++ size_bytes size)
written (Advertise solicited available from_fcf fp priority mac switch fc_map fabric quiet period) =
    message_bytes 1 2 (flag 0x8000 fp + flag 4 available + flag 2 solicited + flag 1 from_fcf)
    (priority_bytes priority ++ mac_bytes mac ++ name_bytes switch ++ fabric_bytes fc_map fabric ++ advertising_bytes quiet period)
written (Login kind fp frame mac) = message_bytes 2 1 (flag 0x8000 fp) (frame_bytes kind frame ++ mac_bytes mac)
written (LoginReply kind fp frame mac) = message_bytes 2 2 (flag 0x8000 fp) (frame_bytes kind frame ++ if_there mac_bytes mac)
written (Keep mac port) = message_bytes 3 1 0 (mac_bytes mac ++ if_there vx_port_bytes port)
written (Clear mac switch ports) = message_bytes 3 2 0 (mac_bytes mac ++ name_bytes switch ++ flat_map vx_port_bytes ports)
written (VlanAsk mac node) = message_bytes 4 1 0 (mac_bytes mac ++ if_there name_bytes node)
written (VlanTell mac vlans) = message_bytes 4 2 0 (mac_bytes mac ++ flat_map vlan_bytes vlans)
