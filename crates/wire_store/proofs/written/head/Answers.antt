use Rattle.std.proofs.Common.{◌∙◌, ◌+◌, arith}
use Rattle.wire_store.proofs.HeadLemmas.{head_more}
use Rattle.wire_store.proofs.written.head.Goals as goal

pub loop-preserved : goal.loop-preserved
loop-preserved c = c.in_ok-extend_from_slice-2.ensures.items ∙ head_more c.loop.counter (c.loop.counter + 1) c.loop.made.items (omega arith) c.loop.invariant
