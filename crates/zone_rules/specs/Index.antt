-- The rows beside the lists: for each name the zones that list it, and for each zone set the zones that it names.
-- No public clause cites this module.
use Rattle.std.specs.Prelude.{◌≡◌, ℕ, ◌<◌, nat_eq, Bool, false, List, [], ◌∷◌, length, Vec, slice_get}
use Rattle.std.specs.Option.{option_map_or}
use Rattle.std.specs.HashMap.{get, HashMap}
use Rattle.std.specs.declared.alloc.Global.{Global}
use Rattle.std.specs.declared.hash.FoldHasher.{FoldHasher}
use Rattle.std.specs.declared.hash.BuildHasherDefault.{BuildHasherDefault}
use Rattle.fab_config.specs.declared.Zone.{Zone}
use Rattle.fab_config.specs.declared.ZoneSet.{ZoneSet}
use Rattle.sorted_lists.specs.Row.{has}
use Rattle.zone_rules.specs.Joined as spec

-- ---- names

-- the zone at a place lists a name
abbrev pub lists : ℕ → ℕ → List Zone → Bool
lists x place zones = option_map_or (λ z. spec.contains x z.members) (slice_get zones place) false

abbrev pub NameRows : Type 0
NameRows = HashMap ℕ (Vec ℕ Global) (BuildHasherDefault FoldHasher)

-- the row of a name
abbrev pub of_name : NameRows → ℕ → List ℕ
of_name m x = option_map_or (λ row. row.items) (get nat_eq m x) []

abbrev pub IsIndex : NameRows → List Zone → Type 0
IsIndex m zones = (x place : ℕ) → has (of_name m x) place ≡ lists x place zones

-- ---- zone sets

-- the row of a zone set
abbrev pub of_set : List (Vec ℕ Global) → ℕ → List ℕ
of_set rows set = option_map_or (λ row. row.items) (slice_get rows set) []

-- each has the places of the zone set beside it, where so many zones are
abbrev pub AreRows : ℕ → List (Vec ℕ Global) → List ZoneSet → Type 0
AreRows zones [] [] = Unit {0}
AreRows zones [] (s ∷ sets) = ⊥
AreRows zones (r ∷ rows) [] = ⊥
AreRows zones (r ∷ rows) (s ∷ sets) = ((place : ℕ) → place < zones → has r.items place ≡ spec.contains place s.places) × AreRows zones rows sets

-- ---- both

pub record KeepsIndex (names : NameRows) (set_rows : List (Vec ℕ Global)) (zones : List Zone) (sets : List ZoneSet) : Type 0 where
  pub of_names : IsIndex names zones
  pub of_sets : AreRows (length zones) set_rows sets
