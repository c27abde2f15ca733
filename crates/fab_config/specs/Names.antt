-- The names of zones and of zone sets, and the place of a name among them.
use Rattle.std.specs.Prelude.{ℕ, ◌+◌, if◌then◌else◌, List, [], ◌∷◌, map, Option, Some, None}
use Rattle.fab_config.specs.Settings.{same_bytes}
use Rattle.fab_config.specs.declared.Zone.{Zone}
use Rattle.fab_config.specs.declared.ZoneSet.{ZoneSet}

abbrev pub zone_names : List Zone → List (List ℕ)
zone_names zones = map (λ z. z.name) zones

abbrev pub set_names : List ZoneSet → List (List ℕ)
set_names sets = map (λ s. s.name) sets

-- the place of a name in a list of them
abbrev pub place_from : ℕ → List ℕ → List (List ℕ) → Option ℕ
place_from n x [] = None
place_from n x (y ∷ names) = if same_bytes x y then Some n else place_from (n + 1) x names

abbrev pub place : List ℕ → List (List ℕ) → Option ℕ
place x names = place_from 0 x names
