use Rattle.std.proofs.Common.{subst, IsTrue}
use Rattle.fab_base.specs.Desk.{knows}
use Rattle.tool_process.proofs.EdgeLemmas.{knows-more}
use Rattle.tool_process.proofs.edge.desk_of.Goals as goal

pub loop-index-preserved : goal.loop-index-preserved
loop-index-preserved c = knows-more c.loop-index.desk c.learn.new.desk c.args.words.now c.loop-index.index c.loop-index.invariant c.in_ok-learn.ensures.others (subst (λ n. IsTrue (knows c.learn.new.desk n)) c.word_at.ensures c.in_ok-learn.ensures.own)
