-- The passes of a fabric of two ports.
use Rattle.std.specs.Prelude.{◌≡◌, ℕ, [], ◌∷◌, Some}
use Rattle.fab_policy.specs.declared.event.Event.{Event}
use Rattle.fab_turn.specs.declared.board.Pass.{Pass}
use Rattle.fab_turn.specs.Lock.{given, kept, IsPassOf, IsRootOf, IsIdle}
use Rattle.fab_shared.specs.declared.locked.LockedFabric.{LockedFabric}
use Rattle.fab_shared.specs.declared.shared.SharedFabric.{SharedFabric}

-- the root, of which both passes were split
abbrev pub IsSplit : SharedFabric → Pass LockedFabric Event → Type 0
IsSplit shared root = IsRootOf shared.lock root × IsIdle root × (given root ≡ 2 ∷ 1 ∷ []) × (kept root ≡ [])

-- a pass of a port, in no turn
abbrev pub IsOf : SharedFabric → ℕ → Pass LockedFabric Event → Type 0
IsOf shared port pass = IsPassOf shared.lock pass × IsIdle pass × (pass.port ≡ Some port)
