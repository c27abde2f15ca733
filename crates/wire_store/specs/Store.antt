-- A store whose stream is heard and whose outputs are sent.
use Rattle.std.specs.Prelude.{◌≡◌, ℕ, false, IsTrue, List, [], None, Some, slice_get, slice_set, ◌⊎◌}
use Rattle.fab_base.specs.Seen.{Seen}
use Rattle.wire_store.specs.declared.store.Outlet.{Outlet}
use Rattle.wire_store.specs.Ports.{Acts, Sends, SendsPiece}

-- a store of files of which no content is told
abbrev pub untold : Seen → Seen
untold d = record d { told = false; file = λ m. None; left = λ s. [] }

-- What an output's port is given behind a piece that was put: the frames of the records that it makes whole. Where memory was refused,
-- now or earlier, nothing is sent any more.
pub record Takes (port : ℕ) (before after : Outlet) (piece : List ℕ) (old new : Acts) : Type 0 where
  pub slot : after.slot ≡ before.slot
  pub lost : IsTrue before.lost → IsTrue after.lost
  pub silent : IsTrue after.lost → Sends port [] old new
  pub sends : ¬ IsTrue after.lost → SendsPiece port before.splitter after.splitter piece old new

-- Behind a piece that was put to a slot: one output of that slot took it, or nothing was sent.
abbrev pub Passes : ℕ → List Outlet → List Outlet → List ℕ → Acts → Acts → Type 0
Passes slot before after piece old new =
    ((before ≡ after) × (old ≡ new)) ⊎ ((q : ℕ) × (o p : Outlet) × (slice_get before q ≡ Some o) × (after ≡ slice_set before q p) × (o.slot ≡ Some slot) × Takes q o p piece old new)
