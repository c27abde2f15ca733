-- What a contract says of a shared fabric.
use Rattle.std.specs.Prelude.{◌≡◌, ℕ, List, [], ◌∷◌, ◌++◌}
use mathlib.Core.List.{IsPrefix}
use Rattle.fab_policy.specs.Journal.{followed}
use Rattle.fab_policy.specs.Standing.{Contents}
use Rattle.fab_states.specs.States.{LegalFrom}
use Rattle.fab_states.specs.Went.{Grown}
use Rattle.fab_policy.specs.declared.event.Event.{Event}
use Rattle.fab_turn.specs.declared.board.Pass.{Pass}
use Rattle.fab_turn.specs.Lock.{first_of, seen, own, kept}
use Rattle.fab_turn.specs.Views.{of_port, kept_list}
use Rattle.fab_shared.specs.Frames.{frames_of, port_of_event}
use Rattle.fab_shared.specs.declared.locked.LockedFabric.{LockedFabric}
use Rattle.fab_shared.specs.declared.shared.SharedFabric.{SharedFabric}

-- the fabric when the lock was opened
abbrev pub opened : SharedFabric → Contents
opened shared = (first_of shared.lock).fabric

-- An entry became the last of the history and of the pass's own list. The history before it begins with what the pass had
-- seen, and the entries since the opening and then this one are right, each after those before it, by what the opened fabric
-- kept.
pub record IsStep (first : Contents) (e : Event) (old new : Pass LockedFabric Event) : Type 0 where
  pub own_is : own new ≡ own old ++ e ∷ []
  -- the entries between the opening and this one
  pub since : List Event
  pub seen_is : seen new ≡ (frames_of first.events ++ since) ++ e ∷ []
  pub earlier : IsPrefix (seen old) (frames_of first.events ++ since)
  pub legal : LegalFrom first.settings first.state (e ∷ followed [] since)

-- A closed fabric has grown out of the opened one by the entries since the opening: those of each port are the list that the
-- root kept for it, a port without a list has none, and the root has seen no others.
pub record Closes (first : Contents) (root : Pass LockedFabric Event) (F : Contents) : Type 0 where
  pub grown : Grown first F
  pub kept_is : (port : ℕ) → of_port port_of_event port grown.later ≡ kept_list port (kept root)
  pub begins : IsPrefix (seen root) (frames_of first.events ++ grown.later)
