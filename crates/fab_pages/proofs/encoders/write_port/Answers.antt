use Rattle.std.proofs.Common.{◌≡◌, ◌+◌, ◌∙◌, ap, sym, refl, Some, slice_get, append-nil}
use Rattle.std.specs.Option.{option_copied}
use Rattle.fab_pages.specs.Pages.{sent_by}
use Rattle.fab_pages.proofs.PageLemmas.{early_at}
use Rattle.fab_pages.proofs.EncoderLemmas.{can_at, records_next}
use Rattle.fab_pages.proofs.FrontLemmas.{goes_same, goes_trans}
use Rattle.fab_pages.proofs.encoders.write_port.Goals as goal

pub write_own-requires-clause-early : goal.write_own-requires-clause-early
write_own-requires-clause-early c =
    let at : slice_get c.args.sendings.now.drained.now.outs c.loop-index.index ≡ Some c.in-Some.out.now = sym c.at.ensures ∙ ap option_copied c.in-Some.is in
    early_at c.args.sendings.now.drained.now.outs c.loop-index.index c.in-Some.out.now c.requires at

pub loop-index-preserved : goal.loop-index-preserved
loop-index-preserved c =
    let at : slice_get c.args.sendings.now.drained.now.outs c.loop-index.index ≡ Some c.in-Some.out.now = sym c.at.ensures ∙ ap option_copied c.in-Some.is in (
      records_next (c.args.place + 1) (sent_by c.args.sendings.now) c.args.sendings.now.drained.now.outs c.loop-index.index c.in-Some.out.now c.args.page.now.items c.loop-index.page.items c.write_own.new.page.items
          at c.loop-index.invariant.0 c.in_ok-write_own.ensures.ok,
      goes_trans c.args.page.now.items c.loop-index.page.items c.write_own.new.page.items c.loop-index.invariant.1 c.in_ok-write_own.ensures.front,
    )

pub write_own-requires-clause-can : goal.write_own-requires-clause-can
write_own-requires-clause-can c =
    let at : slice_get c.args.sendings.now.drained.now.outs c.loop-index.index ≡ Some c.in-Some.out.now = sym c.at.ensures ∙ ap option_copied c.in-Some.is in
    can_at c.args.sendings.now.drained.now.events c.args.sendings.now.drained.now.outs c.loop-index.index c.in-Some.out.now c.args.sendings.now.drained.now.sendable at

pub loop-index-init : goal.loop-index-init
loop-index-init c = (sym (append-nil c.args.page.now.items), goes_same c.args.page.now.items c.args.page.now.items refl)

pub returns-in_err-write_own-clause-front : goal.returns-in_err-write_own-clause-front
returns-in_err-write_own-clause-front c = goes_trans c.args.page.now.items c.loop-index.page.items c.write_own.new.page.items c.loop-index.invariant.1 c.in_err-write_own.ensures.front
