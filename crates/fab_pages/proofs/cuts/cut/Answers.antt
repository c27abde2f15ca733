use Rattle.std.proofs.Common.{◌∙◌, ℕ, Vec, Global, ap, sym, take}
use Rattle.fab_pages.proofs.PageLemmas.{other_page, piece-item, set_page}
use Rattle.fab_pages.proofs.cuts.cut.Goals as goal

pub returns-clause-own : goal.returns-clause-own
returns-clause-own c =
    set_page c.args.pages.now c.args.place c.truncate.new.self c.requires ∙ c.truncate.ensures.items
    ∙ ap (λ (v : Vec ℕ Global). take c.args.len v.items) (sym c.index-pages-place.is)
    ∙ ap (take c.args.len) (piece-item c.args.pages.now c.args.place c.index-pages-place.result c.requires c.index-pages-place.is)

pub returns-clause-others : goal.returns-clause-others
returns-clause-others c = λ q ne. other_page c.args.pages.now c.args.place q c.truncate.new.self ne
