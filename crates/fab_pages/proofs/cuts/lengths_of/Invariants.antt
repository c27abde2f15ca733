use Rattle.std.proofs.Common.{◌≡◌, length, map, take}
use Rattle.fab_pages.specs.Pages.{items_in}
use Rattle.fab_pages.proofs.cuts.lengths_of.Given as goal

abbrev pub invariant-loop-place : goal.invariant-loop-place
invariant-loop-place l = l.lengths.items ≡ map (λ page. length page) (items_in (take l.place l.pages))
