use Rattle.std.proofs.Common.{◌≡◌, ◌++◌, take}
use Rattle.std.specs.List.{flat_map}
use Rattle.fab_config.specs.Names.{zone_names}
use Rattle.fab_config.specs.Written.{spaced, name_at}
use Rattle.fab_config.proofs.writing.put_places.Given as goal

abbrev pub invariant-loop-index : goal.invariant-loop-index
invariant-loop-index l = l.out.items ≡ l.initial.out.items ++ flat_map (λ p. spaced (name_at (zone_names l.zones) p)) (take l.index l.set.places)
