use Rattle.std.proofs.Common.{◌||◌, length, sym, subst, arith}
use Rattle.fab_pages.specs.Pages.{items_in}
use Rattle.fab_pages.specs.Encoders.{AreBelow}
use Rattle.fab_pages.proofs.PageLemmas.{length-items, length_set}
use Rattle.fab_pages.proofs.EncoderLemmas.{AreLeft, below_last, left_fewer}
use Rattle.fab_pages.proofs.encoders.put_back.Goals as goal

pub put_page-requires : goal.put_page-requires
put_page-requires c =
    let i = c.loop-encoder.invariant in
    let e = c.in-Some.ensures.items in
    let lt = below_last (length (items_in c.args.pages.now)) c.pop.new.self.items c.in-Some.encoder (subst (AreBelow (length (items_in c.args.pages.now))) e i.within) in
    let n = i.count in
    let m = length-items c.loop-encoder.pages in
    record { place = omega (arith, lt, n, m) }

pub loop-encoder-preserved : goal.loop-encoder-preserved
loop-encoder-preserved c =
    let i = c.loop-encoder.invariant in
    let e = c.in-Some.encoder in
    subst (λ l. AreLeft c.args.encoders.items c.pop.new.self.items (items_in c.args.pages.now) (items_in l) (c.loop-encoder.refused || e.refused)) (sym c.put_page.ensures)
    (left_fewer c.args.encoders.items c.loop-encoder.encoders.items c.pop.new.self.items (items_in c.args.pages.now) c.loop-encoder.pages c.loop-encoder.refused e c.in-Some.ensures.items i
    (length_set c.loop-encoder.pages e.place e.page))
