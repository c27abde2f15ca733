-- What a contract sees of the watchers: how many there may be, and the watchers in ascending order of their addresses
-- (FC-LS-2, "State Change Registration").
use Rattle.std.specs.Prelude.{◌≡◌, ℕ, ◌<◌, ◌≤◌, nat_le, Bool, false, ◌==◌, ◌&&◌, ◌||◌, if◌then◌else◌, List, length, filter, find, Option, Some, None, IsTrue, option_map}
use Rattle.std.specs.List.{All}
use Rattle.std.specs.Option.{option_map_or}
use Rattle.fab_base.specs.Fabric.{asks_fabric}
use Rattle.fab_base.specs.Keyed as keyed
use Rattle.zone_rules.specs.Joined as zones
use Rattle.zone_rules.specs.Rules.{ZoneRules}
use Rattle.state_change.specs.declared.watcher.Watcher.{Watcher}

pub record Watching : Type 0 where
  pub room : ℕ
  pub watchers : List Watcher

-- the key of a watcher
abbrev pub address_of : Watcher → ℕ
address_of w = w.address

-- ---- functions (FC-LS-2, "SCR", Registration Function)

-- asks for state changes: 1 for those that the fabric detects, 2 for those that an N_Port detects, 3 for both
abbrev pub is_asking : ℕ → Bool
is_asking f = f == 1 || f == 2 || f == 3

-- asks for state changes, or with 255 for none
abbrev pub is_function : ℕ → Bool
is_function f = is_asking f || f == 255

-- ---- questions

-- the watcher of an address
abbrev pub watcher_at : ℕ → List Watcher → Option Watcher
watcher_at a watchers = keyed.item_at address_of a watchers

-- the function that an address asked with, or 0 where it is no watcher
abbrev pub function_at : ℕ → List Watcher → ℕ
function_at a watchers = option_map_or (λ w. w.function) (watcher_at a watchers) 0

-- the least address from a bound on, of watchers that ascend
abbrev pub first_from : ℕ → List Watcher → Option ℕ
first_from from watchers = option_map address_of (find (λ w. nat_le from w.address) watchers)

-- ---- changes

-- the watchers with this one, in the place of the one that has its address, between those below it and those above it
abbrev pub set_to : Watcher → List Watcher → List Watcher
set_to w watchers = keyed.added address_of w watchers

-- the watchers without that of this address
abbrev pub without : ℕ → List Watcher → List Watcher
without a watchers = keyed.without address_of a watchers

-- what an N_Port is once it asked with a function: a watcher, or none
abbrev pub asked : ℕ → ℕ → ℕ → Option Watcher
asked address name function = if function == 255 then None else Some (record { address = address; name = name; function = function })

-- the watchers once an N_Port asked with a function
abbrev pub after_ask : ℕ → ℕ → ℕ → List Watcher → List Watcher
after_ask address name function watchers =
    if function == 255 then without address watchers else set_to (record { address = address; name = name; function = function }) watchers

-- one that isn't a watcher yet and asks for state changes finds room
abbrev pub HasPlace : ℕ → ℕ → Watching → Type 0
HasPlace address function t = (function == 255) ≡ false → watcher_at address t.watchers ≡ None → length t.watchers < t.room

-- ---- whom a change reaches

-- the fabric tells it of changes
abbrev pub is_told : Watcher → Bool
is_told w = asks_fabric w.function

-- two names are joined at a moment
abbrev pub joined : ZoneRules → ℕ → ℕ → ℕ → Bool
joined z at x y = zones.joined z.zones z.sets z.activations at x y

-- a change of the affected name reaches a watcher: it is told, and joined with that name
abbrev pub is_recipient : ZoneRules → ℕ → ℕ → Watcher → Bool
is_recipient z at affected w = is_told w && joined z at w.name affected

-- the watchers that a change of the affected name reaches
abbrev pub recipients : ZoneRules → ℕ → ℕ → List Watcher → List Watcher
recipients z at affected watchers = filter (is_recipient z at affected) watchers

-- a change of zones reaches a watcher: it is told, and joined with the affected name at one of two moments but not at the other
abbrev pub is_changed : ZoneRules → ℕ → ℕ → ℕ → Watcher → Bool
is_changed z before at affected w = is_told w && zones.differs z.zones z.sets z.activations before at w.name affected

-- the watchers that a change of zones reaches on account of the affected name
abbrev pub changed : ZoneRules → ℕ → ℕ → ℕ → List Watcher → List Watcher
changed z before at affected watchers = filter (is_changed z before at affected) watchers

-- ---- what holds of all watchers

-- strictly ascending addresses, none below the bound
abbrev pub AscendFrom : ℕ → List Watcher → Type 0
AscendFrom from watchers = keyed.AscendFrom address_of from watchers

-- each asked for state changes
abbrev pub AreAsking : List Watcher → Type 0
AreAsking watchers = All (λ (w : Watcher). IsTrue (is_asking w.function)) watchers

-- The watchers ascend, so no address comes twice; each asked with a function of 1 to 3; and there is room for them.
pub record IsSound (t : Watching) : Type 0 where
  pub ascending : AscendFrom 0 t.watchers
  pub functions : AreAsking t.watchers
  pub bound : length t.watchers ≤ t.room
