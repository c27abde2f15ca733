use Rattle.std.proofs.Common.{◌≡◌, ◌∙◌, ◌++◌, ◌∷◌, [], ℕ, ap, sym, length, take, arith}
use Rattle.std.proofs.Math.Seq.{take-length}
use Rattle.fab_config.proofs.ListLemmas.{take_slice}
use Rattle.fab_state.proofs.SeamReadLemmas.{some_at}
use Rattle.fab_state.proofs.reading.nexts_of.Goals as goal

pub loop-place-preserved : goal.loop-place-preserved
loop-place-preserved c s more h e all =
    let k = c.loop-place.place in
    let low = c.loop-place-test.true in
    let there = some_at s.nexts k (omega (arith, low, all)) in
    c.in_ok-push.ensures.items ∙ ap (λ l. l ++ c.next_in.result ∷ []) (c.loop-place.invariant s more h e all)
    ∙ ap (λ (n : ℕ). take k s.nexts ++ n ∷ []) (c.next_in.ensures s more there.0 h e there.1) ∙ sym (take_slice s.nexts k there.0 there.1)

pub returns : goal.returns
returns c s more h e all =
    c.from_vec.ensures ∙ c.loop-place.invariant s more h e all ∙ ap (λ (k : ℕ). take k s.nexts) (let at : c.loop-place.place ≡ length s.nexts = omega (arith, all) in at) ∙ take-length s.nexts
