use Rattle.fab_shared.proofs.FrameLemmas.{Handling}
use Rattle.fab_shared.proofs.frames.in_turn.Given as goal

abbrev pub invariant-loop-place : goal.invariant-loop-place
invariant-loop-place g l = Handling l.place l.shelves l.fn.fabric l.fabric
