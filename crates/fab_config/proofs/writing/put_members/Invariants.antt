use Rattle.std.proofs.Common.{◌≡◌, ◌++◌, take}
use Rattle.std.specs.List.{flat_map}
use Rattle.fab_config.specs.Written.{spaced, name_text}
use Rattle.fab_config.proofs.writing.put_members.Given as goal

abbrev pub invariant-loop-index : goal.invariant-loop-index
invariant-loop-index l = l.out.items ≡ l.initial.out.items ++ flat_map (λ m. spaced (name_text m)) (take l.index l.zone.members)
