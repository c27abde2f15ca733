use Rattle.std.proofs.Common.{◌∙◌, refl, sym, ap, arith}
use Rattle.std.specs.Option.{option_copied}
use Rattle.zone_rules.proofs.JoinLemmas.{change_here, change_later}
use Rattle.zone_rules.proofs.zones.first_change.Goals as goal

pub returns-then-value : goal.returns-then-value
returns-then-value c =
    change_here c.args.activations.now c.loop-index.index c.unwrap-activation.result.now (sym c.at.ensures ∙ ap option_copied c.unwrap-activation.ensures) c.args.after c.args.after c.unwrap-activation.result.now.moment
    refl refl (omega arith) c.loop-index.invariant

pub loop-index-preserved : goal.loop-index-preserved
loop-index-preserved c =
    change_later c.args.activations.now c.loop-index.index c.unwrap-activation.result.now (sym c.at.ensures ∙ ap option_copied c.unwrap-activation.ensures) c.args.after c.args.after c.unwrap-activation.result.now.moment
    refl refl (omega arith) c.loop-index.invariant
