-- The parts of a written message, which only contracts of private functions cite.
use Rattle.std.specs.Prelude.{ℕ, ◌+◌, List, ◌++◌, flat_map}
use Rattle.fip_codec.specs.Message.{Fip, Solicit, Advertise, Login, LoginReply, Keep, Clear, VlanAsk, VlanTell, priority_bytes, mac_bytes, name_bytes, fabric_bytes, size_bytes, frame_bytes, vx_port_bytes, advertising_bytes, vlan_bytes, if_there, flag}

-- operation and subcode
abbrev pub code_out : Fip → ℕ × ℕ
code_out (Solicit from_fcf fp mac node_name size) = (1, 1)
code_out (Advertise solicited available from_fcf fp priority mac switch fc_map fabric quiet period) = (1, 2)
code_out (Login kind fp frame mac) = (2, 1)
code_out (LoginReply kind fp frame mac) = (2, 2)
code_out (Keep mac port) = (3, 1)
code_out (Clear mac switch ports) = (3, 2)
code_out (VlanAsk mac node_name) = (4, 1)
code_out (VlanTell mac vlans) = (4, 2)

abbrev pub flags_out : Fip → ℕ
flags_out (Solicit from_fcf fp mac node_name size) = flag 0x8000 fp + flag 1 from_fcf
flags_out (Advertise solicited available from_fcf fp priority mac switch fc_map fabric quiet period) =
    flag 0x8000 fp + flag 4 available + flag 2 solicited + flag 1 from_fcf
flags_out (Login kind fp frame mac) = flag 0x8000 fp
flags_out (LoginReply kind fp frame mac) = flag 0x8000 fp
flags_out (Keep mac port) = 0
flags_out (Clear mac switch ports) = 0
flags_out (VlanAsk mac node_name) = 0
flags_out (VlanTell mac vlans) = 0

-- the descriptors in the order of the table
abbrev pub list_out : Fip → List ℕ
list_out (Solicit from_fcf fp mac node_name size) = mac_bytes mac ++ name_bytes node_name ++ size_bytes size
list_out (Advertise solicited available from_fcf fp priority mac switch fc_map fabric quiet period) =
    priority_bytes priority ++ mac_bytes mac ++ name_bytes switch ++ fabric_bytes fc_map fabric ++ advertising_bytes quiet period
list_out (Login kind fp frame mac) = frame_bytes kind frame ++ mac_bytes mac
list_out (LoginReply kind fp frame mac) = frame_bytes kind frame ++ if_there mac_bytes mac
list_out (Keep mac port) = mac_bytes mac ++ if_there vx_port_bytes port
list_out (Clear mac switch ports) = mac_bytes mac ++ name_bytes switch ++ flat_map vx_port_bytes ports
list_out (VlanAsk mac node_name) = mac_bytes mac ++ if_there name_bytes node_name
list_out (VlanTell mac vlans) = mac_bytes mac ++ flat_map vlan_bytes vlans
