use Rattle.std.proofs.Common.{◌≡◌, ◌∙◌, ap, sym, Some, slice_get, rules}
use Rattle.std.specs.Option.{option_copied}
use Rattle.fab_pages.specs.Pages.{items_in, sent_by}
use Rattle.fab_pages.proofs.PageLemmas.{early_at, adds_next, adds_none}
use Rattle.fab_pages.proofs.FrontLemmas.{go_refl, go_trans}
use Rattle.fab_pages.proofs.pages.Sendings.write_each.Goals as goal

pub write_to_port-requires-clause-early : goal.write_to_port-requires-clause-early
write_to_port-requires-clause-early c =
    let at : slice_get c.args.self.now.drained.now.outs c.loop-index.index ≡ Some c.in-Some.out.now = sym c.at.ensures ∙ ap option_copied c.in-Some.is in
    early_at c.args.self.now.drained.now.outs c.loop-index.index c.in-Some.out.now c.requires at

pub loop-index-preserved : goal.loop-index-preserved
loop-index-preserved c =
    let at : slice_get c.args.self.now.drained.now.outs c.loop-index.index ≡ Some c.in-Some.out.now = sym c.at.ensures ∙ ap option_copied c.in-Some.is in
    let old = items_in c.args.pages.now in
    let now = items_in c.loop-index.pages in
    let new = items_in c.write_to_port.new.pages in (
      adds_next (sent_by c.args.self.now) c.args.self.now.drained.now.outs c.loop-index.index c.in-Some.out.now old now new at c.loop-index.invariant.0 c.in_ok-write_to_port.ensures.adds,
      go_trans old now new c.loop-index.invariant.1 c.in_ok-write_to_port.ensures.fronts,
    )

pub loop-index-init : goal.loop-index-init
loop-index-init c = (adds_none (items_in c.args.pages.now), go_refl (items_in c.args.pages.now))

pub returns-in_err-write_to_port : goal.returns-in_err-write_to_port
returns-in_err-write_to_port c = record {
  adds = search rules;
  fronts = go_trans (items_in c.args.pages.now) (items_in c.loop-index.pages) (items_in c.write_to_port.new.pages) c.loop-index.invariant.1 c.in_err-write_to_port.ensures.fronts;
}
