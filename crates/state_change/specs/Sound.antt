-- How the watchers are kept: each at a place of its own, and the places by address. No public clause cites this module.
use Rattle.std.specs.Prelude.{ℕ, ◌≤◌, ◌<◌, ◌^◌, List}
use Rattle.slab.specs.Slab.{Slab}
use Rattle.sorted_lists.specs.Orders.{seen, IsOrder}
use Rattle.state_change.specs.Watchers.{address_of, IsSound}
use Rattle.state_change.specs.declared.watcher.Watcher.{Watcher}

-- The watchers are sound, the places are those of all of them by address, there is room for as many as there may be, and their number is a `u32`.
pub record HasRoom (most : ℕ) (slab : Slab Watcher) (places : List ℕ) (capacity : ℕ) : Type 0 where
  pub sound : IsSound (record { room = most; watchers = seen slab places })
  pub order : IsOrder address_of slab places
  pub slab_room : most ≤ slab.capacity
  pub room : most ≤ capacity
  pub range : most < 2 ^ 32
