use Rattle.std.proofs.Common.{◌∙◌, ◌++◌, [], ◌∷◌, sym, ap}
use Rattle.std.specs.Option.{option_copied}
use Rattle.zone_rules.proofs.JoinLemmas.{take_slice}
use Rattle.zone_rules.proofs.zones.copy_activations.Goals as goal

pub loop-index-preserved : goal.loop-index-preserved
loop-index-preserved c =
    c.in_ok-push.ensures.ok ∙ ap (λ l. l ++ c.unwrap.result.now ∷ []) c.loop-index.invariant
    ∙ sym (take_slice c.args.activations.now c.loop-index.index c.unwrap.result.now (sym c.at.ensures ∙ ap option_copied c.unwrap.ensures))
