use Rattle.std.proofs.Common.{◌∙◌, sym, ap}
use Rattle.std.specs.Option.{option_copied}
use Rattle.sorted_lists.specs.Row.{has}
use Rattle.zone_rules.specs.Index.{of_name}
use Rattle.zone_rules.proofs.JoinLemmas.{row_more}
use Rattle.zone_rules.proofs.index.add_zone.Goals as goal

pub loop-index-preserved : goal.loop-index-preserved
loop-index-preserved c = λ x q. row_more x q c.args.place _ c.unwrap.result.now c.args.members.now c.loop-index.index (has (of_name c.args.rows.now x) q) (has (of_name c.loop-index.rows x) q) (has (of_name c.add.new.rows x) q)
    c.behind-at.view_is (sym c.at.ensures ∙ ap option_copied c.unwrap.ensures) (c.loop-index.invariant x q) (c.in_ok-add.ensures x q)
