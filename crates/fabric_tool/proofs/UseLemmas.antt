-- What calls leave and count that read files and write none.
use Rattle.std.proofs.Common.{ℕ, List, IsTrue, sym, subst}
use Rattle.fab_base.specs.Ending.{End, Uses}
use Rattle.fab_base.specs.Seen.{Seen, Touches, Nothing, SameFiles}
use Rattle.fab_base.proofs.EndingLemmas.{none_yet, counts_then}
use Rattle.window_records.proofs.UsesLemmas.{uses_touches}
use Rattle.run_files.specs.Names.{Among}
use Rattle.fabric_tool.specs.Ending.{CountsOf}

module _ {reads : List ℕ → Type 0} {end : End} {a b : Seen} (u : Uses reads Nothing end a b) where
  pub used_touches : Touches Nothing reads a b
  used_touches = uses_touches reads a b u

  -- no file has changed
  pub used_files : SameFiles a b
  used_files m = u.touches.files m (λ x. x)

  pub used_told : IsTrue a.told → IsTrue b.told
  used_told told = subst IsTrue (sym u.touches.told) told

  -- what is counted is one of these names
  pub used_counts : (names written : List (List ℕ)) → ((m : List ℕ) → reads m → Among names m) → CountsOf names written end a b
  used_counts names written are = counts_then end a a b (λ rose. (rose.0, are rose.0 rose.1, rose.2)) (λ rose. absurd rose.1) (none_yet a) u.counts
