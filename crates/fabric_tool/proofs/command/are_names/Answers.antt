use Rattle.std.proofs.Common.{sym, ◌∙◌}
use Rattle.fabric_tool.proofs.CommandLemmas.{empty_name, used_name}
use Rattle.fabric_tool.proofs.command.are_names.Goals.{then-is_empty-via-then-is_empty, then-is_empty-via-else-is_empty+then-is_used_after}
use Rattle.fabric_tool.proofs.command.are_names.Goals as goal

pub returns-then-is_empty : goal.returns-then-is_empty
returns-then-is_empty c =
    let words = c.args.words.now in
    elim c.then-is_empty.branch [
      | then-is_empty-via-then-is_empty w ↦
          empty_name words c.args.first c.loop-index.index c.word_at.result.now c.loop-index-test.true c.loop-index.invariant c.word_at.ensures (sym c.is_empty.ensures ∙ w.if-is_empty.true)
      | then-is_empty-via-else-is_empty+then-is_used_after w ↦
          used_name words c.args.first c.loop-index.index c.loop-index-test.true c.loop-index.invariant (sym w.is_used_after.ensures ∙ w.if-is_used_after.true)
    ]
