use Rattle.std.proofs.Common.{◌≡◌, length}
use Rattle.std.specs.Option.{option_map}
use Rattle.fab_config.specs.Lines.{words}
use Rattle.fab_config.specs.Text.{zone_place}
use Rattle.fab_config.specs.Values.{all_of, once}
use Rattle.fab_config.proofs.NamedLemmas.{joined}
use Rattle.fab_config.proofs.named.read_places.Given as goal

abbrev pub invariant-loop-word : goal.invariant-loop-word
invariant-loop-word l = record {
  seen : l.seen ≡ l.places;
  on : option_map once (all_of (zone_place l.zones) (words l.values)) ≡ joined l.places (all_of (zone_place l.zones) (words l.rest));
}

abbrev pub decreases-loop-word : goal.decreases-loop-word
decreases-loop-word l = length l.rest
