use Rattle.std.proofs.Common.{◌+◌, ◌∙◌, false, List, sym, subst, refl}
use Rattle.std.specs.Prelude.{slice_set}
use Rattle.fab_pages.specs.Pages.{items_in}
use Rattle.fab_pages.specs.Encoders.{AreOut}
use Rattle.fab_pages.specs.declared.encoders.Encoder.{Encoder}
use Rattle.fab_pages.proofs.EncoderLemmas.{out_idle, out_more}
use Rattle.fab_pages.proofs.encoders.take_own.Goals as goal

pub returns-then-not-has_record-clause-out : goal.returns-then-not-has_record-clause-out
returns-then-not-has_record-clause-out c = λ old o. out_idle c.args.place c.args.drained.now.outs c.args.encoders.now.items old (items_in c.args.pages.now) (c.has_record.ensures c.if-not-has_record.true) o

pub returns-clause-out : goal.returns-clause-out
returns-clause-out c = λ old o.
    let e : Encoder = record { place = c.args.place; page = c.replace-page.result; refused = false } in
    subst (λ (es : List Encoder). AreOut (c.args.place + 1) c.args.drained.now.outs es old (items_in (slice_set c.args.pages.now c.args.place c.replace-page.new.dest))) (sym c.push_reserved.ensures.items)
    (out_more c.args.place c.args.drained.now.outs c.args.encoders.now.items old c.args.pages.now c.index-pages-place.result c.replace-page.new.dest e c.requires.place c.index-pages-place.is refl (c.replace-page.ensures.value ∙ sym c.index-pages-place.is) o)
