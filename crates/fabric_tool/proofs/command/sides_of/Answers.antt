use Rattle.std.proofs.Common.{sym, subst}
use Rattle.side_runs.specs.Sides.{AreDifferent}
use Rattle.fabric_tool.proofs.SideLemmas.{all_behind, different_sides}
use Rattle.fabric_tool.proofs.command.sides_of.Goals as goal

pub returns-clause-different : goal.returns-clause-different
returns-clause-different c = subst AreDifferent (sym (all_behind c.args.words.now)) (different_sides c.args.words.now c.requires)
