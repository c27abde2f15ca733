use Rattle.std.proofs.Common.{◌≡◌, ◌∙◌, ◌++◌, ◌∷◌, ◌+◌, [], ℕ, suc, ap, sym, length, take, drop, add-one, arith}
use Rattle.std.specs.Prelude.{flat_map}
use Rattle.std.proofs.Math.Seq.{take-length}
use Rattle.fab_base.specs.Counting.{counting}
use Rattle.fab_base.specs.Fabric.{Past}
use Rattle.fab_config.proofs.ListLemmas.{take_slice}
use Rattle.fab_pieces.specs.Seam.{past_rows, row_text}
use Rattle.fab_state.proofs.SeamReadLemmas.{drop_at, length-places, places_from, ranged_from, some_at}
use Rattle.fab_state.proofs.reading.pasts_of.Goals as goal

pub loop-place-preserved : goal.loop-place-preserved
loop-place-preserved c past more places h none e =
    let k = c.loop-place.place in
    let low = c.loop-place-test.true in
    let inv = c.loop-place.invariant past more places h none e in
    let size = length-places c.args.first c.args.count past places in
    let there = some_at past k (omega (arith, low, size)) in
    let q = there.0 in
    let tail = drop (suc k) past in
    let from = places_from c.args.count k c.args.first past q places there.1 in
    let at = from.0 ∙ sym c.address_at.ensures in
    let next = c.next_past-past.ensures q tail from.1 more at (from.2 ∙ ap (λ (a : ℕ). counting (a + 1) from.1) (sym c.address_at.ensures)) (ranged_from k past q h there.1) none
    (inv.1 ∙ ap (λ qs. flat_map row_text (past_rows qs) ++ more) (drop_at past k q there.1)) in (
      c.in_ok-push.ensures.items ∙ ap (λ l. l ++ c.next_past-past.result.0 ∷ []) inv.0 ∙ ap (λ (x : Past). take k past ++ x ∷ []) next.0 ∙ sym (take_slice past k q there.1),
      next.1 ∙ ap (λ (n : ℕ). flat_map row_text (past_rows (drop n past)) ++ more) (sym (add-one k)),
    )

pub returns : goal.returns
returns c past more places h none e =
    let size = length-places c.args.first c.args.count past places in
    c.from_vec.ensures ∙ (c.loop-place.invariant past more places h none e).0 ∙ ap (λ (k : ℕ). take k past) (let at : c.loop-place.place ≡ length past = omega (arith, size) in at) ∙ take-length past
