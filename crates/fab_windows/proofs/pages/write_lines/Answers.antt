use Rattle.std.proofs.Common.{◌≡◌, ◌++◌, ◌∙◌, ap, sym, Some, slice_get}
use Rattle.std.specs.Option.{option_copied}
use Rattle.fab_policy.specs.Growing.{lines_from}
use Rattle.fab_policy.specs.Text.{line}
use Rattle.fab_windows.proofs.LineLemmas.{lines_step, longer}
use Rattle.fab_windows.proofs.pages.write_lines.Goals as goal

pub loop-index-preserved : goal.loop-index-preserved
loop-index-preserved c =
    let at : slice_get c.args.events.now c.loop-index.index ≡ Some c.in-Some.event.now = sym c.at.ensures ∙ ap option_copied c.in-Some.is in (
      lines_step c.loop-index.clock c.moved-clock.result c.loop-index.index c.args.events.now c.in-Some.event.now c.loop-index.lines.items c.write_line.new.out.items (c.args.lines.now.items ++ lines_from c.args.start c.args.events.now)
          at c.moved-clock.ensures c.in_ok-write_line.ensures.ok c.loop-index.invariant.0,
      longer c.args.lines.now.items c.loop-index.lines.items (line c.moved-clock.result c.in-Some.event.now) c.write_line.new.out.items c.loop-index.invariant.1 c.in_ok-write_line.ensures.ok,
    )
