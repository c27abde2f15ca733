use Rattle.fab_pages.specs.Pages.{items_in}
use Rattle.fab_pages.proofs.FrontLemmas.{AreCut}
use Rattle.fab_pages.proofs.cuts.cut_all.Given as goal

abbrev pub invariant-loop-place : goal.invariant-loop-place
invariant-loop-place l = AreCut l.place l.lengths (items_in l.fn.pages) (items_in l.pages)
