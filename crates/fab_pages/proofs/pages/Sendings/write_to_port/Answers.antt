use Rattle.std.proofs.Common.{◌∙◌, ◌++◌, Vec, Global, ℕ, ap, sym, subst, arith, rules}
use Rattle.fab_policy.specs.Text.{sent_bytes}
use Rattle.fab_pages.specs.Pages.{GoesOn, sent_by}
use Rattle.fab_pages.proofs.PageLemmas.{adds_record}
use Rattle.fab_pages.proofs.FrontLemmas.{go_page}
use Rattle.fab_pages.proofs.pages.Sendings.write_to_port.Goals as goal

pub returns : goal.returns
returns c =
    let s = sent_by c.args.self.now c.args.out.now in record {
      adds = adds_record s c.args.pages.now c.index-port.result c.write_sent.new.page c.index-pages-port.result (omega (arith, c.index-port.ensures.value)) (omega (arith, c.if-port-pages.false)) c.index-pages-port.is
          (c.in_ok-write_sent.ensures.ok ∙ ap (λ (y : Vec ℕ Global). y.items ++ sent_bytes s) (sym c.index-pages-port.is));
      fronts = go_page c.args.pages.now c.index-port.result c.write_sent.new.page c.index-pages-port.result (omega (arith, c.if-port-pages.false)) c.index-pages-port.is
          (subst (λ (y : Vec ℕ Global). GoesOn y.items c.write_sent.new.page.items) (sym c.index-pages-port.is) c.in_ok-write_sent.ensures.front);
    }

pub returns-in_err-write_sent : goal.returns-in_err-write_sent
returns-in_err-write_sent c = record {
  adds = search rules;
  fronts = go_page c.args.pages.now c.index-port.result c.write_sent.new.page c.index-pages-port.result (omega (arith, c.if-port-pages.false)) c.index-pages-port.is
      (subst (λ (y : Vec ℕ Global). GoesOn y.items c.write_sent.new.page.items) (sym c.index-pages-port.is) c.in_err-write_sent.ensures.front);
}
