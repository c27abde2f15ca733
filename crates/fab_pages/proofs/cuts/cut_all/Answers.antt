use Rattle.std.proofs.Common.{◌∙◌, sym, arith}
use Rattle.fab_pages.specs.Pages.{items_in}
use Rattle.fab_pages.proofs.PageLemmas.{length-items}
use Rattle.fab_pages.proofs.FrontLemmas.{cut_more, cut_none, pages_back}
use Rattle.fab_pages.proofs.cuts.cut_all.Goals as goal

pub loop-place-init : goal.loop-place-init
loop-place-init c = cut_none c.args.lengths.now (items_in c.args.pages.now)

pub loop-place-preserved : goal.loop-place-preserved
loop-place-preserved c =
    cut_more c.loop-place.place c.args.lengths.now (items_in c.args.pages.now) (items_in c.loop-place.pages) (items_in c.cut.new.pages) c.loop-place.invariant
    (length-items c.cut.new.pages ∙ c.cut.ensures.count ∙ sym (length-items c.loop-place.pages)) c.cut.ensures.own c.cut.ensures.others

pub returns-clause-back : goal.returns-clause-back
returns-clause-back c = λ old are on.
    let i = c.loop-place.invariant in
    pages_back c.args.lengths.now old (items_in c.args.pages.now) (items_in c.loop-place.pages) are on i.count (λ q lt. i.pages q (omega (arith, lt, length-items c.args.pages.now, c.loop-place-test.false)))
