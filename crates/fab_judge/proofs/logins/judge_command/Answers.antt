use Rattle.std.proofs.Common.{◌≡◌, ap, sym, inl, inr, ◌∙◌}
use Rattle.els_messages.specs.Els as els
use Rattle.heard_frames.specs.Heard.{sender}
use Rattle.fab_policy.specs.Verdicts.{frame_judged}
use Rattle.fc_frames.specs.Frame.{view as fc_view}
use Rattle.fab_judge.specs.Origin.{is_flogi_by}
use Rattle.fab_judge.proofs.logins.judge_command.Goals as goal

pub returns-in-Logo-clause-grounds : goal.returns-in-Logo-clause-grounds
returns-in-Logo-clause-grounds c =
    c.judge_logout-judged.ensures.grounds (sender c.args.from.now.port c.args.from.now.caught) (is_flogi_by c.args.asked.now.kind c.args.from.now.caught) (fc_view c.args.frame.now) c.asker-to.ensures

pub returns-in_ok-judged-in-Flogi-clause-judged : goal.returns-in_ok-judged-in-Flogi-clause-judged
returns-in_ok-judged-in-Flogi-clause-judged c =
    c.in_ok-judged-in-Flogi.ensures.judged
    ∙ elim c.in-Flogi.is [ inl e ↦ sym (rw (frame_judged, c.requires.value ∙ ap els.view e)) | inr e ↦ sym (rw (frame_judged, c.requires.value ∙ ap els.view e)) ]

pub returns-in_ok-judged-in-Flogi-clause-grounds : goal.returns-in_ok-judged-in-Flogi-clause-grounds
returns-in_ok-judged-in-Flogi-clause-grounds c =
    let f = fc_view c.args.frame.now in
    let parms : els.parms_of f.payload ≡ c.in-Flogi.parms = elim c.in-Flogi.is [ inl e ↦ (rw e at c.requires.grammar).1 | inr e ↦ (rw e at c.requires.grammar).1 ] in
    c.in_ok-judged-in-Flogi.ensures.grounds f parms c.asker-to.ensures
