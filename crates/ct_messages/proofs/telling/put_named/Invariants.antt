use Rattle.std.proofs.Common.{◌≡◌, ◌+◌, ◌*◌, ◌++◌, drop, vec_len}
use Rattle.ct_messages.specs.Answer.{named_bytes}
use Rattle.ct_messages.proofs.telling.put_named.Given as goal

abbrev pub invariant-loop-index : goal.invariant-loop-index
invariant-loop-index l = record {
  bytes : l.bytes.items ++ named_bytes (drop l.index l.list) ≡ l.initial.bytes.items ++ named_bytes l.list;
  size : vec_len l.bytes ≡ vec_len l.initial.bytes + 16 * l.index;
}
