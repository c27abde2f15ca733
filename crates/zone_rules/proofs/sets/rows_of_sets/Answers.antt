use Rattle.std.proofs.Common.{◌∙◌, take, sym, ap}
use Rattle.std.specs.Option.{option_copied}
use Rattle.zone_rules.proofs.JoinLemmas.{take_slice}
use Rattle.zone_rules.proofs.SetLemmas.{AreRows-push}
use Rattle.zone_rules.proofs.sets.rows_of_sets.Goals as goal

pub loop-index-preserved : goal.loop-index-preserved
loop-index-preserved c =
    rw (c.in_ok-push.ensures.ok, take_slice c.args.sets.now c.loop-index.index c.unwrap.result.now (sym c.at.ensures ∙ ap option_copied c.unwrap.ensures))
    (AreRows-push c.args.zones c.loop-index.rows (take c.loop-index.index c.args.sets.now) c.in_ok-row_of_places.field-0 c.unwrap.result.now c.loop-index.invariant c.in_ok-row_of_places.ensures)
