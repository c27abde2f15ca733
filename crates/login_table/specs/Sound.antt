-- How a table keeps its logins: each at a place of its own, and the places in three orders. No public clause cites this module.
use Rattle.std.specs.Prelude.{ℕ, ◌+◌, ◌*◌, ◌≤◌, ◌<◌, ◌^◌, nat_le, if◌then◌else◌, List, Option, None, Some, find, Vec, vec_capacity}
use Rattle.std.specs.declared.alloc.Global.{Global}
use Rattle.std.specs.List.{All}
use Rattle.slab.specs.Slab.{Slab}
use Rattle.fab_base.specs.declared.values.Enode.{Enode}
use Rattle.fab_base.specs.Fabric.{same_enode}
use Rattle.sorted_lists.specs.Enodes as enodes
use Rattle.sorted_lists.specs.Orders.{seen, IsOrder}
use Rattle.login_table.specs.Logins.{address_of, name_of, IsSound}
use Rattle.login_table.specs.declared.login.Login.{Login}

-- the number of a login by its ENode, and then by its address
abbrev pub behind_number : Login → ℕ
behind_number l = enodes.enode_number l.enode * 2 ^ 24 + l.address

abbrev pub IsWholeEnode : Enode → Type 0
IsWholeEnode x = enodes.IsWhole x

-- what holds of each login
abbrev pub FitsLogin : Login → Type 0
FitsLogin l = IsWholeEnode l.enode × (l.address < 2 ^ 24)

-- ---- the first of an ENode

abbrev pub address_behind : Enode → Option Login → Option ℕ
address_behind enode None = None
address_behind enode (Some l) = if same_enode l.enode enode then Some l.address else None

-- the first from the bound on, where it is the ENode's
abbrev pub first_behind : Enode → ℕ → List Login → Option ℕ
first_behind enode from logins =
    if nat_le (2 ^ 24) from then None
    else address_behind enode (find (λ l. nat_le (enodes.enode_number enode * 2 ^ 24 + from) (behind_number l)) logins)

-- The places of all logins are there in the order of addresses, of names, and of ENodes with addresses; the logins are sound;
-- there is room for as many as there may be, and their number is a `u32`.
pub record IsTableKept (limit : ℕ) (slab : Slab Login) (addresses names enodes : Vec ℕ Global) : Type 0 where
  pub sound : IsSound (record { limit = limit; logins = seen slab addresses.items })
  pub fit : All FitsLogin (seen slab addresses.items)
  pub by_address : IsOrder address_of slab addresses.items
  pub by_name : IsOrder name_of slab names.items
  pub by_enode : IsOrder behind_number slab enodes.items
  pub room : limit ≤ slab.capacity
  pub address_room : limit ≤ vec_capacity addresses
  pub name_room : limit ≤ vec_capacity names
  pub enode_room : limit ≤ vec_capacity enodes
  pub range : limit < 2 ^ 32
