use Rattle.std.proofs.Common.{◌≡◌, ◌∙◌, ap, sym, arith, Some, slice_get}
use Rattle.std.specs.Option.{option_copied}
use Rattle.fab_pages.proofs.EncoderLemmas.{none_next}
use Rattle.fab_pages.proofs.encoders.has_record.Goals as goal

pub loop-index-preserved : goal.loop-index-preserved
loop-index-preserved c =
    let at : slice_get c.args.drained.now.outs c.loop-index.index ≡ Some c.in-Some.out.now = sym c.at.ensures ∙ ap option_copied c.in-Some.is in
    let port = c.index.ensures.value in
    none_next c.args.place c.args.drained.now.outs c.loop-index.index c.in-Some.out.now at (λ e. c.if-index-place.false (omega (arith, e, port))) c.loop-index.invariant
