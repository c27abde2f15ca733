use Rattle.std.proofs.Common.{◌∙◌, sym}
use Rattle.enode_core.specs.Runs.{is_too_far}
use Rattle.enode_core.proofs.FindLemmas.{any_here, any_next}
use Rattle.side_runs.proofs.node_input.is_too_long.Goals as goal

pub returns-then-is_too_far : goal.returns-then-is_too_far
returns-then-is_too_far c = sym (any_here (is_too_far c.args.start) c.args.records.now c.loop-place.place (sym c.is_too_far.ensures ∙ c.if-is_too_far.true)) ∙ c.loop-place.invariant

pub loop-place-preserved : goal.loop-place-preserved
loop-place-preserved c = any_next (is_too_far c.args.start) c.args.records.now c.loop-place.place (sym c.is_too_far.ensures ∙ c.if-is_too_far.false) ∙ c.loop-place.invariant
