-- What it is to handle the frames of a window.
use Rattle.std.specs.Prelude.{◌≡◌, ◌≢◌, ℕ, ◌+◌, ◌≤◌, List, [], ◌∷◌, length, map, IsSome}
use Rattle.fab_policy.specs.Journal.{followed}
use Rattle.fab_policy.specs.Legal.{HasPorts, of_port, numbered_from}
use Rattle.fab_policy.specs.Standing.{Contents}
use Rattle.fab_states.specs.Went.{Grown}
use Rattle.fab_policy.specs.declared.event.Event.{Event}
use Rattle.pcap_file.specs.declared.Record.{Record}
use Rattle.window_records.specs.declared.shelf.Shelf.{Shelf}
use Rattle.window_records.specs.Reads.{batches_of, first_index}

-- What a fabric has to be to handle what lies on shelves: it has a clock and a port a shelf, which are 64 at most.
pub record CanTake (F : Contents) (shelves : List Shelf) : Type 0 where
  pub clock : IsSome F.state.tables.clock
  pub ports : F.count ≡ length shelves
  pub few : length shelves ≤ 64

-- the numbers of the first records on shelves
abbrev pub firsts_of : List Shelf → List ℕ
firsts_of shelves = map first_index shelves

-- A fabric handled records of one port, numbered from one on, and nothing else.
pub record HandledPort (port first : ℕ) (records : List Record) (F G : Contents) : Type 0 where
  pub grown : Grown F G
  pub ports : HasPorts F.count (followed [] grown.later)
  pub own : of_port port (followed [] grown.later) ≡ numbered_from first records
  pub others : (q : ℕ) → q ≢ port → of_port q (followed [] grown.later) ≡ []

-- the frames of each port from p on are these records with their numbers
abbrev pub HoldBatches : List Event → ℕ → List ℕ → List (List Record) → Type 0
HoldBatches frames p firsts [] = Unit {0}
HoldBatches frames p [] (batch ∷ batches) = ⊥
HoldBatches frames p (first ∷ firsts) (batch ∷ batches) = (of_port p (followed [] frames) ≡ numbered_from first batch) × HoldBatches frames (p + 1) firsts batches

-- A fabric handled the records of a window, those of each port in their order, whichever way those of different ports came.
pub record Handled (firsts : List ℕ) (batches : List (List Record)) (F G : Contents) : Type 0 where
  pub grown : Grown F G
  pub ports : HasPorts F.count (followed [] grown.later)
  pub held : HoldBatches grown.later 1 firsts batches

-- the records are those on shelves
abbrev pub HandledShelves : List Shelf → Contents → Contents → Type 0
HandledShelves shelves F G = Handled (firsts_of shelves) (batches_of shelves) F G
