use Rattle.std.proofs.Common.{◌+◌, ◌∙◌, arith, ap, get_or, length, refl}
use Rattle.fab_turn.specs.Lock.{own}
use Rattle.fab_shared.proofs.EntryLemmas.{taken_next}
use Rattle.fab_shared.proofs.worker.take_batch.Goals as goal

pub loop-place-preserved : goal.loop-place-preserved
loop-place-preserved g c =
    let i = c.loop-place.invariant in
    let items = c.deref-record-items.ensures.value in
    let r = c.record-item.result in
    let p = c.in_ok-verdict.ensures.pass in
    let step = c.in_ok-verdict.ensures.step c.args.port i.2 in (
      p.0,
      p.1,
      p.2.0 ∙ i.2,
      taken_next c.first_index-first.result (c.first_index-first.result + c.loop-place.place) c.loop-place.place c.args.port c.args.shelf.now.batch.items r c.hear.result.caught.now c.in_ok-verdict.verdict (own c.loop-place.pass)
          (own c.submit.new.pass) (let t = c.loop-place-test.true in omega (arith, ap length items)) (c.record-item.is ∙ ap (λ l. get_or l c.loop-place.place r) items) refl c.hear.ensures.caught i.3 step.own_is,
    )
