use Rattle.std.proofs.Common.{◌∷◌}
use Rattle.fab_policy.specs.Journal.{Journal}
use Rattle.fab_policy.specs.Legal.{Legal}
use Rattle.fab_policy.specs.Standing.{Stands, Takes}
use Rattle.fab_policy.specs.Verdicts.{IsRight}
use Rattle.fab_policy.specs.declared.event.Event.TheVariants.{Frame}
use Rattle.fab_replay.proofs.VerdictLemmas.{judged_left, judged_ok, judged_settings, judged_wrong, misjudged_after}
use Rattle.fab_replay.proofs.verdicts.step_as.Goals as goal

pub returns-clause-right : goal.returns-clause-right
returns-clause-right c =
    let F = c.args.fabric.now in
    judged_ok (IsRight F.settings F.state.tables c.args.port c.args.heard.now.caught.now) c.args.found c.step_or_freely-step.result c.judged_by.result c.judged_by.ensures c.step_or_freely-step.ensures.right

pub returns-clause-takes : goal.returns-clause-takes
returns-clause-takes c =
    judged_ok (λ v. Takes c.args.fabric.now (Frame c.args.port c.args.index c.args.heard.now.caught.now v) c.step_or_freely-step.new.fabric) c.args.found c.step_or_freely-step.result c.judged_by.result c.judged_by.ensures c.step_or_freely-step.ensures.takes

pub returns-clause-journal : goal.returns-clause-journal
returns-clause-journal c =
    let F = c.args.fabric.now in
    judged_ok (λ v. (J : Journal) → Legal F.settings J → Stands F J → let K = Frame c.args.port c.args.index c.args.heard.now.caught.now v ∷ J in Legal F.settings K × Stands c.step_or_freely-step.new.fabric K)
    c.args.found c.step_or_freely-step.result c.judged_by.result c.judged_by.ensures c.step_or_freely-step.ensures.journal

pub returns-clause-wrong : goal.returns-clause-wrong
returns-clause-wrong c =
    let step = c.step_or_freely-step.ensures in
    judged_wrong c.args.fabric.now c.args.port c.args.heard.now.caught.now c.args.found c.verdicts_are_one.ensures c.step_or_freely-step.result c.judged_by.result c.judged_by.ensures step.right _ c.granted_address-wish.ensures step.wished

pub returns-clause-after : goal.returns-clause-after
returns-clause-after c = λ J stands.
    let F = c.args.fabric.now in
    let step = c.step_or_freely-step.ensures in
    misjudged_after F c.args.port c.args.heard.now.caught.now c.args.found J c.judged_by.result stands
    (judged_wrong F c.args.port c.args.heard.now.caught.now c.args.found c.verdicts_are_one.ensures c.step_or_freely-step.result c.judged_by.result c.judged_by.ensures step.right _ c.granted_address-wish.ensures step.wished)

pub returns-clause-left : goal.returns-clause-left
returns-clause-left c =
    let step = c.step_or_freely-step.ensures in
    judged_left c.args.fabric.now c.args.port c.args.heard.now.caught.now c.args.found c.step_or_freely-step.new.fabric c.args.index c.step_or_freely-step.result step.takes step.err c.judged_by.result c.judged_by.ensures

pub returns-clause-settings : goal.returns-clause-settings
returns-clause-settings c =
    let step = c.step_or_freely-step.ensures in
    judged_settings c.args.fabric.now c.args.port c.args.heard.now.caught.now c.args.found c.step_or_freely-step.new.fabric c.args.index c.step_or_freely-step.result step.takes step.err
