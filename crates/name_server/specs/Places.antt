-- How a registry keeps its entries: each at a place of its own, the places by address, and for each FC-4 type a row of the
-- places that have it. No public clause cites this module.
use Rattle.std.specs.Prelude.{◌≡◌, ℕ, ◌/◌, ◌<◌, ◌≤◌, ◌^◌, Bool, false, List, [], length, filter_map, Option, Some, None, Vec, slice_get}
use Rattle.std.specs.List.{All}
use Rattle.std.specs.Option.{option_map_or}
use Rattle.std.specs.declared.alloc.Global.{Global}
use Rattle.slab.specs.Slab.{Slab, get, slab_len}
use Rattle.fab_base.specs.Keyed.{item_at, AscendFrom}
use Rattle.sorted_lists.specs.Row.{has}
use Rattle.ct_messages.specs.Answer.{has_type}
use Rattle.name_server.specs.Registry.{Entry, IsKept}
use Rattle.name_server.specs.declared.placed.Placed.{Placed}

abbrev pub placed_address : Placed → ℕ
placed_address d = d.address

-- the entries in the order of their addresses
abbrev pub entries_of : Slab Entry → List Placed → List Entry
entries_of slab index = filter_map (λ d. get slab d.place) index

-- the entry of this address is at this place
pub record Holds (slab : Slab Entry) (d : Placed) : Type 0 where
  pub entry : Entry
  pub here : get slab d.place ≡ Some entry
  pub same : entry.address ≡ d.address
  pub kept : IsKept entry.values
  pub within : d.place < slab.capacity

-- ---- types

abbrev pub row_of : List (Vec ℕ Global) → ℕ → List ℕ
row_of rows kind = option_map_or (λ row. row.items) (slice_get rows kind) []

-- a row of so many words for each of the 256 types
pub record AreWide (words : ℕ) (rows : List (Vec ℕ Global)) : Type 0 where
  pub count : length rows ≡ 256
  pub each : (kind : ℕ) → kind < 256 → length (row_of rows kind) ≡ words

abbrev pub is_of_type : ℕ → Option Entry → Bool
is_of_type kind None = false
is_of_type kind (Some e) = has_type e.values.types kind

-- Each entry is where its address says, there is room for as many as there may be, and the rows have the types of each place.
pub record HasPlaces (most : ℕ) (slab : Slab Entry) (index : List Placed) (rows : List (Vec ℕ Global)) (index_capacity : ℕ) : Type 0 where
  pub ascending : AscendFrom placed_address 0 index
  pub holds : All (Holds slab) index
  pub told : (place : ℕ) (e : Entry) → get slab place ≡ Some e → item_at placed_address e.address index ≡ Some (record { address = e.address; place = place })
  pub count : length index ≡ slab_len slab
  pub bound : length index ≤ most
  pub room : most ≤ slab.capacity
  pub index_room : most ≤ index_capacity
  pub range : most < 2 ^ 32
  pub marked : (kind place : ℕ) → kind < 256 → has (row_of rows kind) place ≡ is_of_type kind (get slab place)
  pub words : ℕ
  pub wide : AreWide words rows
  pub few : words ≤ 2 ^ 58
  pub fits : slab.capacity < 2 ^ 64
  pub within : (place : ℕ) → place < slab.capacity → place / 64 < words
