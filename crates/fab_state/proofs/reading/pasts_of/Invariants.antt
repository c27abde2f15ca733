use Rattle.std.proofs.Common.{◌≡◌, ◌++◌, ℕ, List, map, take, drop}
use Rattle.std.specs.Prelude.{flat_map}
use Rattle.fab_base.specs.Counting.{counting}
use Rattle.fab_base.specs.Fabric.{Past}
use Rattle.fab_pieces.specs.Seam.{ArePast, past_rows, row_text}
use Rattle.fab_state.specs.Readable.{NoAddress}
use Rattle.fab_state.proofs.reading.pasts_of.Given as goal

abbrev pub invariant-loop-place : goal.invariant-loop-place
invariant-loop-place l =
    (past : List Past) (more : List ℕ) → map (λ (q : Past). q.address) past ≡ counting l.first l.count → ArePast past → NoAddress more → l.fn.text ≡ flat_map row_text (past_rows past) ++ more →
    (l.pasts.items ≡ take l.place past) × (l.rest ≡ flat_map row_text (past_rows (drop l.place past)) ++ more)
