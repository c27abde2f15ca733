use Rattle.std.proofs.Common.{◌≡◌, ℕ, ◌<◌, []}
use Rattle.run_files.specs.Pages.{items_in, piece_at}
use Rattle.run_files.proofs.pages.clear_all.Given as goal

abbrev pub invariant-loop-page : goal.invariant-loop-page
invariant-loop-page l = (q : ℕ) → q < l.page-index → piece_at (items_in l.pages) q ≡ []
