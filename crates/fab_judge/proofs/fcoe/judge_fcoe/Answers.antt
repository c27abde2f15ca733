use Rattle.std.proofs.Common.{sym, ◌∙◌, ap}
use Rattle.std.proofs.lemmas.Bool.{not-false}
use Rattle.eth_frames.specs.Ethernet.{view as eth_view}
use Rattle.fab_config.specs.Settings.{same_bytes}
use Rattle.fab_judge.specs.Judged.{asker_by}
use Rattle.fab_judge.proofs.fcoe.judge_fcoe.Goals as goal

pub returns-in-Ok-clause-judged : goal.returns-in-Ok-clause-judged
returns-in-Ok-clause-judged c =
    let f = eth_view c.args.eth.now in
    c.in-Ok.ensures.judged f
    ∙ sym (rw (
      sym c.is_class3.ensures ∙ c.if-not-is_class3.false,
      ap (λ s. same_bytes f.dst s.fcf_mac) (sym c.config.view_is) ∙ not-false _ (sym c.ne.ensures ∙ c.if-ne.false),
      ap (same_bytes f.src) (sym c.granted_mac.ensures) ∙ not-false _ (sym c.ne-2.ensures ∙ c.if-ne-2.false),
    ))

pub returns-in-Ok-clause-grounds : goal.returns-in-Ok-clause-grounds
returns-in-Ok-clause-grounds c = λ x flogi mac. c.in-Ok.ensures.grounds x flogi (c.asker-to.ensures ∙ ap (λ m. asker_by m c.args.body.now.frame.head) (sym mac))
