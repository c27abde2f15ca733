use Rattle.std.proofs.Common.{ap, false, refl, ◌∙◌}
use Rattle.eth_frames.specs.Ethernet.{view as eth_view}
use Rattle.fcoe_codec.specs.Fcoe.{view as fcoe_view}
use Rattle.fab_base.specs.declared.values.Enode.{Enode}
use Rattle.heard_frames.specs.Heard.{Fcoe}
use Rattle.heard_frames.specs.View.{read_view}
use Rattle.fab_judge.proofs.JudgedLemmas.{body_values}
use Rattle.fab_judge.proofs.judging.judge_body.Goals as goal

pub returns-in-Ok-judge_fcoe-clause-grounds : goal.returns-in-Ok-judge_fcoe-clause-grounds
returns-in-Ok-judge_fcoe-clause-grounds c = λ x flogi f mac carried. rw (rw c.in-Ok.is at carried) (c.in-Ok-judge_fcoe.ensures.grounds x flogi mac)

pub returns-in-Ok-judge_fcoe-clause-values : goal.returns-in-Ok-judge_fcoe-clause-values
returns-in-Ok-judge_fcoe-clause-values c = λ caught is.
    let g = eth_view c.args.eth.now in
    let x : Enode = record { port = c.args.port; mac = g.src } in
    body_values c.frames_are_carried.ensures.body c.args.config.now c.args.roster.now.tables x false c.args.port caught g (fcoe_view c.in-Ok.body)
    (is ∙ ap (λ r. Fcoe g (read_view r)) c.in-Ok.is) c.in-Ok-judge_fcoe.judged (c.in-Ok-judge_fcoe.ensures.grounds x false refl) c.in-Ok-judge_fcoe.ensures.kind
