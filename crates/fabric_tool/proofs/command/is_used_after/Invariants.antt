use Rattle.std.proofs.Common.{◌≡◌, ◌+◌}
use Rattle.std.specs.List.{list_any}
use Rattle.std.specs.Str.{bytes_eq}
use Rattle.fab_base.specs.Places.{name_at}
use Rattle.fabric_tool.specs.Command.{names_from}
use Rattle.fabric_tool.proofs.command.is_used_after.Given as goal

abbrev pub invariant-loop-index : goal.invariant-loop-index
invariant-loop-index l = list_any (λ m. bytes_eq (name_at l.words l.place) m) (names_from (l.place + 1) l.words) ≡ list_any (λ m. bytes_eq (name_at l.words l.place) m) (names_from l.index l.words)
