use Rattle.std.proofs.Common.{◌≡◌, ◌≤◌}
use Rattle.std.specs.Prelude.{vec_capacity, vec_len}
use Rattle.fab_pages.specs.Pages.{items_in}
use Rattle.fab_pages.specs.Encoders.{AreOut}
use Rattle.fab_pages.proofs.encoders.take_pages.Given as goal

abbrev pub invariant-loop-place : goal.invariant-loop-place
invariant-loop-place l = AreOut l.place l.drained.outs l.encoders.items (items_in l.fn.pages) (items_in l.pages) × (vec_len l.encoders ≤ l.place) × (vec_capacity l.encoders ≡ vec_capacity l.fn.encoders)
