use Rattle.std.proofs.Common.{◌≡◌}
use Rattle.fabric_tool.specs.Command.{names_from, are_names}
use Rattle.fabric_tool.proofs.command.are_names.Given as goal

abbrev pub invariant-loop-index : goal.invariant-loop-index
invariant-loop-index l = are_names (names_from l.first l.words) ≡ are_names (names_from l.index l.words)
