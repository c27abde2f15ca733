use Rattle.std.proofs.Common.{arith, refl, subst, ℕ}
use Rattle.std.proofs.lemmas.Option.{slice_get_read}
use Rattle.window_records.specs.Reads.{first_index}
use Rattle.fab_shared.specs.Handled.{HandledPort}
use Rattle.fab_shared.proofs.FrameLemmas.{handling_none, handling_more, handling_all}
use Rattle.fab_shared.proofs.frames.in_turn.Goals as goal

pub loop-place-init : goal.loop-place-init
loop-place-init g c = handling_none c.args.shelves.now c.args.fabric.now

pub loop-place-preserved : goal.loop-place-preserved
loop-place-preserved g c =
    handling_more c.entries_come_in_parts.ensures.followed c.loop-place.place c.args.shelves.now c.index-shelves-place.result c.args.fabric.now c.loop-place.fabric c.take_port.new.fabric c.loop-place.invariant
    (slice_get_read c.args.shelves.now _ c.loop-place.place c.index-shelves-place.result refl (let t = c.loop-place-test.true in let a = c.loop-place.auto in omega arith) c.index-shelves-place.is)
    (subst (λ (p : ℕ). HandledPort p (first_index c.index-shelves-place.result) c.index-shelves-place.result.batch.items c.loop-place.fabric c.take_port.new.fabric) c.at.ensures c.in_ok-take_port.ensures.handled)

pub returns : goal.returns
returns g c =
    record { handled = handling_all c.loop-place.place c.args.shelves.now c.args.fabric.now c.loop-place.fabric (let t = c.loop-place-test.false in let a = c.loop-place.auto in omega arith) c.loop-place.invariant }
