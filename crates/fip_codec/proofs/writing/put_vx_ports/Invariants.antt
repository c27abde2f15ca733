use Rattle.std.proofs.Common.{◌≡◌, ◌+◌, ◌*◌, ◌++◌, take}
use Rattle.arrayvec.specs.ArrayVec.{array_vec_len}
use Rattle.std.specs.List.{flat_map}
use Rattle.fip_codec.specs.Message.{vx_port_bytes}
use Rattle.fip_codec.proofs.writing.put_vx_ports.Given as goal

abbrev pub invariant-loop-port : goal.invariant-loop-port
invariant-loop-port l = record {
  bytes : l.list.items ≡ l.initial.list.items ++ flat_map vx_port_bytes (take l.port-index l.ports);
  size : array_vec_len l.list ≡ array_vec_len l.initial.list + 20 * l.port-index;
}
