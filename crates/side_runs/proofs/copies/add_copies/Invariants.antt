use Rattle.std.proofs.Common.{◌+◌}
use Rattle.run_files.specs.Pages.{items_in}
use Rattle.side_runs.specs.Copies.{copy_of}
use Rattle.side_runs.proofs.PageLemmas.{GrownTo}
use Rattle.side_runs.proofs.copies.add_copies.Given as goal

abbrev pub invariant-loop-place : goal.invariant-loop-place
invariant-loop-place l = GrownTo (λ q. copy_of (q + 1) l.found.moment l.found.caught.bytes l.way) l.place (items_in l.fn.pages) (items_in l.pages)
