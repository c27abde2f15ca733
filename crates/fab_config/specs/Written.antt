-- The one text that is written for a configuration.
use Rattle.std.specs.Prelude.{ℕ, List, [], ◌∷◌, ◌++◌, map, flat_map, unwrap_or, codes, decimal, slice_get}
use Rattle.fab_base.specs.Layout.{spelled}
use Rattle.fab_base.specs.Texts.{hex}
use Rattle.fab_config.specs.Settings.{Settings}
use Rattle.fab_config.specs.Names.{zone_names, set_names}
use Rattle.fab_config.specs.declared.Zone.{Zone}
use Rattle.fab_config.specs.declared.ZoneSet.{ZoneSet}
use Rattle.fab_config.specs.declared.Activation.{Activation}

-- octets in lower case, with colons between them
abbrev pub octets_text : List ℕ → List ℕ
octets_text [] = []
octets_text (b ∷ l) = hex 2 b ++ flat_map (λ c. 58 ∷ hex 2 c) l

abbrev pub name_text : ℕ → List ℕ
name_text n = octets_text (spelled 8 n)

-- a word after a space
abbrev pub spaced : List ℕ → List ℕ
spaced word = 32 ∷ word

-- a line of a key and its values, one space before each
abbrev pub line_text : List ℕ → List (List ℕ) → List ℕ
line_text key values = key ++ flat_map spaced values ++ 10 ∷ []

abbrev pub number_line : List ℕ → ℕ → List ℕ
number_line key n = line_text key (decimal n ∷ [])

abbrev pub zone_line : Zone → List ℕ
zone_line z = line_text (codes "zone") (z.name ∷ map name_text z.members)

abbrev pub name_at : List (List ℕ) → ℕ → List ℕ
name_at names p = unwrap_or (slice_get names p) []

abbrev pub set_line : List Zone → ZoneSet → List ℕ
set_line zones s = line_text (codes "zoneset") (s.name ∷ map (name_at (zone_names zones)) s.places)

abbrev pub activation_line : List ZoneSet → Activation → List ℕ
activation_line sets a = line_text (codes "activate") (name_at (set_names sets) a.set ∷ decimal a.moment ∷ [])

-- the keys with one value, in the order of the table
abbrev pub addresses_text : Settings → List ℕ
addresses_text c =
    line_text (codes "fcf-mac") (octets_text c.fcf_mac ∷ []) ++ number_line (codes "vlan") c.vlan
    ++ line_text (codes "switch") (name_text c.switch ∷ []) ++ line_text (codes "fc-map") (octets_text (spelled 3 c.fc_map) ∷ [])

abbrev pub numbers_text : Settings → List ℕ
numbers_text c =
    number_line (codes "domain") c.domain ++ number_line (codes "pool") c.pool ++ number_line (codes "priority") c.priority
    ++ number_line (codes "period") c.period ++ number_line (codes "window") c.window ++ number_line (codes "limit") c.limit

-- all keys in the order of the table, then the zones, the zone sets and the activations
unfoldable pub written : Settings → List ℕ
written c =
    addresses_text c ++ numbers_text c ++ flat_map zone_line c.zones ++ flat_map (set_line c.zones) c.sets ++ flat_map (activation_line c.sets) c.activations
