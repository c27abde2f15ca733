use Rattle.std.proofs.Common.{◌∙◌, refl, sym, ap, arith}
use Rattle.std.specs.Option.{option_copied}
use Rattle.zone_rules.proofs.JoinLemmas.{active_here, active_before}
use Rattle.zone_rules.proofs.zones.active_set.Goals as goal
use Rattle.zone_rules.proofs.zones.active_set.Goals.{then-value, else-value}

pub loop-index-preserved : goal.loop-index-preserved
loop-index-preserved c =
    let a = c.unwrap-activation.result.now in
    let there = sym c.at.ensures ∙ ap option_copied c.unwrap-activation.ensures in
    elim c.if-value.branch [
      | then-value w ↦ w.found-is ∙ active_here c.args.activations.now c.loop-index.index a there c.args.at c.args.at a.moment refl refl (omega arith)
      | else-value w ↦ w.found-is ∙ c.loop-index.invariant ∙ active_before c.args.activations.now c.loop-index.index a there c.args.at c.args.at a.moment refl refl (omega arith)
    ]
