-- The workers of a window, and what each of them did.
use Rattle.std.specs.Prelude.{◌≡◌, ◌⊎◌, ℕ, ◌+◌, ◌<◌, ◌≤◌, true, false, List, [], ◌∷◌, length, slice_get, slice_index_or, All, Some}
use Rattle.fab_base.specs.declared.values.Caught.{Caught}
use Rattle.window_records.specs.declared.shelf.Shelf.{Shelf}
use Rattle.fab_policy.specs.Legal.{numbered_from}
use Rattle.fab_policy.specs.declared.event.Event.{Event}
use Rattle.fab_policy.specs.declared.event.Event.TheVariants.{Tick, Frame}
use Rattle.fab_turn.specs.declared.board.Pass.{Pass}
use Rattle.fab_turn.specs.Lock.{own, given, kept, IsPassOf, IsRootOf, IsIdle}
use Rattle.fab_turn.specs.Views.{has_port, has_kept, kept_list}
use Rattle.fab_shared.specs.declared.locked.LockedFabric.{LockedFabric}
use Rattle.fab_shared.specs.declared.shared.SharedFabric.{SharedFabric}
use Rattle.window_records.specs.Reads.{first_index}
use Rattle.fab_shared.specs.declared.worker.Worker.{Worker}

-- the frames of entries, with their indices
abbrev pub frames_in : List Event → List (ℕ × Caught)
frames_in [] = []
frames_in (Tick m ended ∷ es) = frames_in es
frames_in (Frame port index caught verdict ∷ es) = (index, caught) ∷ frames_in es

-- The frames of entries are those on the shelf of a port.
pub record IsTaken (shelves : List Shelf) (port : ℕ) (es : List Event) : Type 0 where
  pub place : ℕ
  pub shelf : Shelf
  pub port_is : port ≡ place + 1
  pub found : slice_get shelves place ≡ Some shelf
  pub frames : frames_in es ≡ numbered_from (first_index shelf) shelf.batch.items

-- ---- one worker

-- its pass is of the lock, in no turn, and of its port
abbrev pub IsReady : SharedFabric → Worker → Type 0
IsReady shared w = IsPassOf shared.lock w.pass × IsIdle w.pass × (w.pass.port ≡ Some w.port)

-- it made no entry, and its port has a shelf
abbrev pub IsNew : List Shelf → Worker → Type 0
IsNew shelves w = (own w.pass ≡ []) × (w.port ≤ length shelves)

-- where it was refused no memory, it made the entries of the frames on its shelf
abbrev pub IsDone : List Shelf → Worker → Type 0
IsDone shelves w = w.refused ≡ false → IsTaken shelves w.port (own w.pass)

-- ---- all workers

-- each port that is out is kept, or it is that of a worker
abbrev pub HasWorkers : Pass LockedFabric Event → List Worker → Type 0
HasWorkers root workers = (p : ℕ) → has_port p (given root) ≡ true → (has_kept p (kept root) ≡ true) ⊎ ((k : ℕ) × (k < length workers) × ((d : Worker) → (slice_index_or workers k d).port ≡ p))

-- of the first k ports, each with a frame on its shelf is out
abbrev pub AreGiven : ℕ → List Shelf → Pass LockedFabric Event → Type 0
AreGiven k shelves root = (q : ℕ) (s : Shelf) → q < k → slice_get shelves q ≡ Some s → (s.batch.items ≡ []) ⊎ (has_port (q + 1) (given root) ≡ true)

-- each list that is kept has the frames on the shelf of its port
abbrev pub AreTaken : List Shelf → Pass LockedFabric Event → Type 0
AreTaken shelves root = (p : ℕ) → has_kept p (kept root) ≡ true → IsTaken shelves p (kept_list p (kept root))

-- Workers for the first k ports, one for each with a frame on its shelf.
pub record AreHired (shared : SharedFabric) (shelves : List Shelf) (k : ℕ) (root : Pass LockedFabric Event) (workers : List Worker) : Type 0 where
  pub root_is : IsRootOf shared.lock root × IsIdle root
  pub none_kept : kept root ≡ []
  pub few : length workers ≤ k
  pub ready : All (λ w. IsReady shared w) workers
  pub fresh : All (λ w. IsNew shelves w) workers
  pub workers_are : HasWorkers root workers
  pub free : (p : ℕ) → k < p → has_port p (given root) ≡ false
  pub out : AreGiven k shelves root
