use Rattle.std.proofs.Common.{◌∙◌, ◌+◌, ◌++◌, ap, sym, arith}
use Rattle.std.specs.Prelude.{Vec}
use Rattle.std.specs.declared.alloc.Global.{Global}
use Rattle.std.proofs.Common.{ℕ}
use Rattle.run_files.specs.Pages.{items_in}
use Rattle.side_runs.specs.Copies.{copy_of}
use Rattle.side_runs.proofs.PageLemmas.{grown_next}
use Rattle.side_runs.proofs.copies.add_copies.Goals as goal

pub loop-place-preserved : goal.loop-place-preserved
loop-place-preserved c =
    let found = c.args.found.now in
    let f = λ (q : ℕ). copy_of (q + 1) found.moment found.caught.bytes c.args.way.now in
    let k = c.loop-place.place in
    let page = c.index-pages-place.result in
    let is = c.index-pages-place.is in
    grown_next f k (items_in c.args.pages.now) c.loop-place.pages c.add_copy.new.page page (omega (arith, c.loop-place-test.true, c.loop-place.auto.pages)) is
    (c.in_ok-add_copy.ensures.ok ∙ ap (λ (v : Vec ℕ Global). v.items ++ copy_of (k + 1) found.moment c.view.result.now c.args.way.now) (sym is) ∙ ap (λ l. page.items ++ copy_of (k + 1) found.moment l c.args.way.now) c.view.ensures.value)
    c.loop-place.invariant
