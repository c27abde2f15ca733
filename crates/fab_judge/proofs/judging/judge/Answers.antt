use Rattle.std.proofs.Common.{ap, sym, ◌∙◌}
use Rattle.eth_frames.specs.Ethernet as eth
use Rattle.fip_codec.specs.Message as fip
use Rattle.heard_frames.specs.Heard.{decoded, carried, is_flogi, sender}
use Rattle.fab_policy.specs.Rules.{frame_rule, fip_login_rows}
use Rattle.fab_policy.specs.Verdicts.{fip_judged}
use Rattle.heard_frames.specs.View.{view, read_view}
use Rattle.fab_judge.specs.Rows.{unless_dropped}
use Rattle.fab_judge.proofs.JudgedLemmas.{judged_by_rule, judged_fip, judged_fcoe, carried_by}
use Rattle.fab_judge.proofs.judging.judge.Goals as goal

pub returns-in-Some-clause-judged : goal.returns-in-Some-clause-judged
returns-in-Some-clause-judged c =
    sym (judged_by_rule c.args.config.now c.args.roster.now.tables c.args.port c.args.heard.now.caught.now c.in-Some.cause (sym c.frame_rule.ensures ∙ c.in-Some.is))

pub judge_fip-requires : goal.judge_fip-requires
judge_fip-requires c =
    ap (λ o. decoded o.caught) c.of-from.ensures ∙ (sym c.args.heard.now.decoded ∙ ap view c.in-Fip.is)

pub returns-in_ok-judged-in-Fip-clause-judged : goal.returns-in_ok-judged-in-Fip-clause-judged
returns-in_ok-judged-in-Fip-clause-judged c =
    let C = c.args.config.now in
    let T = c.args.roster.now.tables in
    let m = fip.view c.in-Fip.message in
    let is = sym c.args.heard.now.decoded ∙ ap view c.in-Fip.is in
    let none = ap (frame_rule C) (sym is) ∙ (sym c.frame_rule.ensures ∙ c.in_default.is) in
    c.in_ok-judged-in-Fip.ensures.judged
    ∙ ap (λ o. unless_dropped (fip_login_rows C T o.port o.caught m) (fip_judged C T o.port o.caught m)) c.of-from.ensures
    ∙ sym (judged_fip C T c.args.port c.args.heard.now.caught.now (eth.view c.in-Fip.eth) m is none)

pub returns-in-Ok-clause-judged : goal.returns-in-Ok-clause-judged
returns-in-Ok-clause-judged c =
    let C = c.args.config.now in
    let T = c.args.roster.now.tables in
    let f = eth.view c.in-Fcoe.eth in
    let read = read_view c.in-Fcoe.read in
    let is = sym c.args.heard.now.decoded ∙ ap view c.in-Fcoe.is in
    let none = ap (frame_rule C) (sym is) ∙ (sym c.frame_rule.ensures ∙ c.in_default.is) in
    rw (judged_fcoe C T c.args.port c.args.heard.now.caught.now f read is none) c.in-Ok.ensures.judged

pub returns-in-Ok-clause-grounds : goal.returns-in-Ok-clause-grounds
returns-in-Ok-clause-grounds c =
    let caught = c.args.heard.now.caught.now in
    let f = eth.view c.in-Fcoe.eth in
    let read = read_view c.in-Fcoe.read in
    let is = sym c.args.heard.now.decoded ∙ ap view c.in-Fcoe.is in
    c.in-Ok.ensures.grounds (sender c.args.port caught) (is_flogi caught) (carried caught) (c.frames_are_carried.ensures.source.1 caught f read is)
    (carried_by c.frames_are_carried.ensures.body caught f read is)
