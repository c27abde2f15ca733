use Rattle.std.proofs.Common.{◌∙◌, sym, ap, Some, arith}
use Rattle.fab_base.specs.Contents.{content_in, content_bytes}
use Rattle.fab_base.proofs.MemLemmas.{content_read}
use Rattle.fab_base.proofs.mem_depot.MemDepot.content.Goals as goal

pub returns-in-Some : goal.returns-in-Some
returns-in-Some c =
    let at = sym c.in_ok-place.was ∙ c.place.ensures.found in
    ap Some c.as_slice.ensures.value ∙ sym (ap content_bytes c.in-Some.is) ∙ sym (content_read c.args.self.now.contents.items c.in_ok-place.place _ (let w = c.in_ok-place.ensures.within in omega (arith, w, c.args.self.now.paired)) c.index.ensures) ∙ ap (content_in c.args.self.now.contents.items) at

pub returns-in-None : goal.returns-in-None
returns-in-None c =
    let at = sym c.in_ok-place.was ∙ c.place.ensures.found in
    sym (ap content_bytes c.in-None.is) ∙ sym (content_read c.args.self.now.contents.items c.in_ok-place.place _ (let w = c.in_ok-place.ensures.within in omega (arith, w, c.args.self.now.paired)) c.index.ensures) ∙ ap (content_in c.args.self.now.contents.items) at
