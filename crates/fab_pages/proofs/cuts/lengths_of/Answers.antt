use Rattle.std.proofs.Common.{◌∙◌, ◌++◌, ◌∷◌, [], ℕ, List, length, map, take, ap, sym}
use Rattle.fab_pages.specs.Pages.{items_in}
use Rattle.fab_pages.proofs.FrontLemmas.{lengths_next}
use Rattle.fab_pages.proofs.cuts.lengths_of.Goals as goal

pub loop-place-preserved : goal.loop-place-preserved
loop-place-preserved c =
    let page = c.index-pages-place.result in
    c.in_ok-push.ensures.items ∙ ap (λ (l : List ℕ). l ++ c.len.result ∷ []) c.loop-place.invariant
    ∙ ap (λ (n : ℕ). map (λ page. length page) (items_in (take c.loop-place.place c.args.pages.now)) ++ n ∷ []) (c.len.ensures ∙ page.ok.0)
    ∙ sym (lengths_next c.args.pages.now c.loop-place.place page c.loop-place-test.true c.index-pages-place.is)
