use Rattle.std.proofs.Common.{◌∙◌, sym, ap}
use Rattle.std.specs.Option.{option_copied}
use Rattle.fab_config.specs.Names.{zone_names}
use Rattle.fab_config.specs.Written.{spaced, name_at}
use Rattle.fab_config.proofs.WriteLemmas.{written_more}
use Rattle.fab_config.proofs.writing.put_places.Goals as goal

pub loop-index-preserved : goal.loop-index-preserved
loop-index-preserved c =
    written_more (λ p. spaced (name_at (zone_names c.args.zones.now) p)) c.args.set.now.places c.loop-index.index c.unwrap.result.now c.args.out.now.items c.loop-index.out.items c.put_zone_name.new.out.items
    (sym c.at.ensures ∙ ap option_copied c.unwrap.ensures) c.loop-index.invariant c.in_ok-put_zone_name.ensures
