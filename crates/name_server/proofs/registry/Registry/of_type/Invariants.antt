use Rattle.std.proofs.Common.{◌≡◌, ◌+◌, ◌-◌, ◌*◌, ◌/◌, ℕ, length, slice_get}
use Rattle.sorted_lists.specs.Row.{has}
use Rattle.name_server.specs.Places.{row_of}
use Rattle.name_server.proofs.TypedLemmas.{seen_place, is_before}
use Rattle.name_server.proofs.registry.Registry.of_type.Given as goal

abbrev pub invariant-loop-place : goal.invariant-loop-place
invariant-loop-place l = record {
  words : length l.row.items ≡ length l.seen / 64 + 1;
  bits : (i : ℕ) → has l.row.items i ≡ is_before l.self-inside.types.items l.kind l.from (seen_place l.self-inside.index.items (slice_get l.seen i));
}

abbrev pub decreases-loop-place : goal.decreases-loop-place
decreases-loop-place l = 64 * length (row_of l.self-inside.types.items l.kind) - l.from
