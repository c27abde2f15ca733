-- Which messages may be written, and what the types of the code keep of a message by themselves.
use Rattle.std.specs.Prelude.{◌≡◌, ℕ, ◌^◌, ◌%◌, ◌<◌, ◌≤◌, List, length, IfSome, IsTrue, nat_lt}
use Rattle.std.specs.List.{All, list_all}
use Rattle.fip_codec.specs.Message.{Fip, Solicit, Advertise, Login, LoginReply, Keep, Clear, VlanAsk, VlanTell}
use Rattle.fip_codec.specs.declared.message.VxPort.{VxPort}

-- an encapsulated frame: whole words, as many as a descriptor holds
abbrev pub IsFrame : List ℕ → Type 0
IsFrame frame = (length frame % 4 ≡ 0) × (24 ≤ length frame) × (length frame ≤ 1016)

-- Lists have at most 100 members, VLAN numbers have 12 bits and an FC-MAP has 24, and a frame is one.
abbrev pub CanWrite : Fip → Type 0
CanWrite (Solicit from_fcf fp mac node_name size) = Unit {0}
CanWrite (Advertise solicited available from_fcf fp priority mac switch fc_map fabric quiet period) = fc_map < 2 ^ 24
CanWrite (Login kind fp frame mac) = IsFrame frame
CanWrite (LoginReply kind fp frame mac) = IsFrame frame
CanWrite (Keep mac port) = Unit {0}
CanWrite (Clear mac switch ports) = length ports ≤ 100
CanWrite (VlanAsk mac node_name) = Unit {0}
CanWrite (VlanTell mac vlans) = (length vlans ≤ 100) × IsTrue (list_all (λ n. nat_lt n 4096) vlans)

abbrev pub IsMac : List ℕ → Type 0
IsMac mac = length mac ≡ 6

-- a MAC, an address of 24 bits and a name of 64
pub record IsPort (p : VxPort) : Type 0 where
  pub mac : IsMac p.mac
  pub address : p.address < 2 ^ 24
  pub name : p.name < 2 ^ 64

-- what the types keep: a MAC has six bytes, and each number its type's bits
abbrev pub IsTyped : Fip → Type 0
IsTyped (Solicit from_fcf fp mac node_name size) = IsMac mac × (node_name < 2 ^ 64) × (size < 2 ^ 16)
IsTyped (Advertise solicited available from_fcf fp priority mac switch fc_map fabric quiet period) =
    IsMac mac × (switch < 2 ^ 64) × (fabric < 2 ^ 64) × (period < 2 ^ 32)
IsTyped (Login kind fp frame mac) = IsMac mac
IsTyped (LoginReply kind fp frame mac) = IfSome mac IsMac
IsTyped (Keep mac port) = IsMac mac × IfSome port IsPort
IsTyped (Clear mac switch ports) = IsMac mac × (switch < 2 ^ 64) × All IsPort ports
IsTyped (VlanAsk mac node_name) = IsMac mac × IfSome node_name (λ n. n < 2 ^ 64)
IsTyped (VlanTell mac vlans) = IsMac mac
