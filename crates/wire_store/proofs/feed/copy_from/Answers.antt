use Rattle.std.proofs.Common.{arith}
use Rattle.fab_base.proofs.MemLemmas.{copied}
use Rattle.wire_store.proofs.feed.copy_from.Goals as goal

pub returns-clause-taken : goal.returns-clause-taken
returns-clause-taken c = copied c.args.bytes.now c.copy_from_slice.new.self _ c.args.at c.min-count.result _ c.copy_from_slice.ensures.after (omega arith) (omega arith)
