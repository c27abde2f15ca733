use Rattle.std.proofs.Common.{◌∙◌, arith}
use Rattle.fab_pages.specs.Pages.{items_in}
use Rattle.fab_pages.proofs.encoders.take_pages.Goals as goal

pub loop-place-preserved : goal.loop-place-preserved
loop-place-preserved c =
    let i = c.loop-place.invariant in
    let t = c.take_own.ensures in
    (t.out (items_in c.args.pages.now) i.0, (let more = t.more in let so_far = i.1 in omega (arith, more, so_far)), t.capacity ∙ i.2)
