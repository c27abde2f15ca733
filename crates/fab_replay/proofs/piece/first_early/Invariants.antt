use Rattle.std.proofs.Common.{◌≡◌, ℕ, ◌<◌, Some, slice_get}
use Rattle.window_records.specs.declared.shelf.Shelf.{Shelf}
use Rattle.fab_replay.specs.Piece.{IsShelfLater}
use Rattle.fab_replay.proofs.piece.first_early.Given as goal

abbrev pub invariant-loop-i : goal.invariant-loop-i
invariant-loop-i l = (q : ℕ) → q < l.i → (s : Shelf) → slice_get l.shelves q ≡ Some s → IsShelfLater l.config l.clock s
