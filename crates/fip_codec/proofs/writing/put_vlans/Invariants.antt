use Rattle.std.proofs.Common.{◌≡◌, ◌+◌, ◌*◌, ◌++◌, take}
use Rattle.arrayvec.specs.ArrayVec.{array_vec_len}
use Rattle.std.specs.List.{flat_map}
use Rattle.fip_codec.specs.Message.{vlan_bytes}
use Rattle.fip_codec.proofs.writing.put_vlans.Given as goal

abbrev pub invariant-loop-vlan : goal.invariant-loop-vlan
invariant-loop-vlan l = record {
  bytes : l.list.items ≡ l.initial.list.items ++ flat_map vlan_bytes (take l.vlan-index l.vlans);
  size : array_vec_len l.list ≡ array_vec_len l.initial.list + 4 * l.vlan-index;
}
