use Rattle.std.proofs.Common.{◌∙◌, sym, ap}
use Rattle.std.specs.Option.{option_copied}
use Rattle.fab_config.specs.Written.{set_line}
use Rattle.fab_config.proofs.WriteLemmas.{written_more}
use Rattle.fab_config.proofs.writing.write_sets.Goals as goal

pub loop-index-preserved : goal.loop-index-preserved
loop-index-preserved c =
    written_more (set_line c.args.zones.now) c.args.sets.now c.loop-index.index c.unwrap.result.now c.args.out.now.items c.loop-index.out.items c.write_set.new.out.items
    (sym c.at.ensures ∙ ap option_copied c.unwrap.ensures) c.loop-index.invariant c.in_ok-write_set.ensures
