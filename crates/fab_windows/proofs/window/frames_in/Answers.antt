use Rattle.std.proofs.Common.{◌≡◌, ◌+◌, ap, sym, ◌∙◌, drop, arith, slice_get, Some}
use Rattle.std.specs.Option.{option_copied}
use Rattle.fab_policy.specs.Journal.{frame_count}
use Rattle.fab_windows.proofs.CountLemmas.{frames_first, frames_within, drop_next}
use Rattle.fab_windows.proofs.window.frames_in.Goals as goal

pub loop-index-preserved : goal.loop-index-preserved
loop-index-preserved c =
    let at : slice_get c.args.events.now c.loop-index.index ≡ Some c.in-Some.event.now = sym c.at.ensures ∙ ap option_copied c.in-Some.is in
    let step = ap frame_count (drop_next c.args.events.now c.loop-index.index c.in-Some.event.now at) ∙ frames_first c.in-Some.event.now (drop (c.loop-index.index + 1) c.args.events.now) in
    omega (arith, c.loop-index.invariant, step, c.frames_of-frames.ensures)

pub overflow_add-frames : goal.overflow_add-frames
overflow_add-frames c =
    let at : slice_get c.args.events.now c.loop-index.index ≡ Some c.in-Some.event.now = sym c.at.ensures ∙ ap option_copied c.in-Some.is in
    let step = ap frame_count (drop_next c.args.events.now c.loop-index.index c.in-Some.event.now at) ∙ frames_first c.in-Some.event.now (drop (c.loop-index.index + 1) c.args.events.now) in
    let few = frames_within c.args.events.now in
    let size = c.len-index-end.ensures in
    omega (arith, c.loop-index.invariant, step, c.frames_of-frames.ensures, few, size, c.len-index-end.type_inv)
