use Rattle.std.proofs.Common.{◌≡◌, ◌<◌, length, ℕ, Some, slice_get}
use Rattle.tool_process.specs.Same.{first_name}
use Rattle.tool_process.specs.declared.same.Spot.{Spot}
use Rattle.tool_process.specs.declared.same.Spot.TheVariants as spot
use Rattle.tool_process.proofs.same.spots_of.Given as goal

abbrev pub invariant-loop-place : goal.invariant-loop-place
invariant-loop-place g l =
    (length l.spots.items ≡ l.place)
    × ((i : ℕ) (a : Spot) → i < first_name l.fn.words → slice_get l.spots.items i ≡ Some a → a ≡ spot.Other)
