use Rattle.std.proofs.Common.{◌+◌, ◌∙◌, arith, ap, get_or, length, refl}
use Rattle.fab_shared.proofs.FrameLemmas.{port_none, port_next, port_all}
use Rattle.fab_shared.proofs.frames.take_port.Goals as goal

pub loop-place-init : goal.loop-place-init
loop-place-init g c = port_none c.args.port c.first_index-first.result c.args.fabric.now

pub loop-place-preserved : goal.loop-place-preserved
loop-place-preserved g c =
    let items = c.deref-record-items.ensures.value in
    let r = c.record-item.result in
    port_next c.entries_come_in_parts.ensures.followed c.args.port c.first_index-first.result (c.first_index-first.result + c.loop-place.place) c.loop-place.place c.args.shelf.now.batch.items r
    c.args.fabric.now c.loop-place.fabric c.take_record.new.fabric (let t = c.loop-place-test.true in omega (arith, ap length items)) (c.record-item.is ∙ ap (λ l. get_or l c.loop-place.place r) items) refl
    c.loop-place.invariant c.in_ok-verdict.ensures.handled

pub returns : goal.returns
returns g c =
    record {
      handled = port_all c.args.port c.first_index-first.result _ c.loop-place.place c.args.shelf.now.batch.items c.args.fabric.now c.loop-place.fabric
          (let t = c.loop-place-test.false in omega (arith, ap length c.deref-record-items.ensures.value)) c.first_index-first.ensures.value c.loop-place.invariant;
    }
