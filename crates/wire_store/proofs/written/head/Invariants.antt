use Rattle.std.proofs.Common.{◌≡◌}
use Rattle.wire_store.specs.Written.{stream_head}
use Rattle.wire_store.proofs.written.head.Given as goal

abbrev pub invariant-loop : goal.invariant-loop
invariant-loop l = l.made.items ≡ stream_head l.counter
