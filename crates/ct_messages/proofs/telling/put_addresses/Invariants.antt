use Rattle.std.proofs.Common.{◌≡◌, ◌+◌, ◌*◌, ◌++◌, drop, vec_len}
use Rattle.ct_messages.specs.Answer.{addresses_bytes}
use Rattle.ct_messages.proofs.telling.put_addresses.Given as goal

abbrev pub invariant-loop-index : goal.invariant-loop-index
invariant-loop-index l = record {
  bytes : l.bytes.items ++ addresses_bytes (drop l.index l.list) ≡ l.initial.bytes.items ++ addresses_bytes l.list;
  size : vec_len l.bytes ≡ vec_len l.initial.bytes + 4 * l.index;
}
