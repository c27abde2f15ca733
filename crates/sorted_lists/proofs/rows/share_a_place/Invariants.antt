use Rattle.std.proofs.Common.{◌≡◌, ◌<◌, ℕ, get_or, bit_and}
use Rattle.sorted_lists.proofs.rows.share_a_place.Given as goal

abbrev pub invariant-loop-word : goal.invariant-loop-word
invariant-loop-word l = (k : ℕ) → k < l.word → bit_and (bit_and (get_or l.xs k 0) (get_or l.ys k 0)) (get_or l.zs k 0) ≡ 0
