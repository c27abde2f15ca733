use Rattle.std.proofs.Common.{ap, sym, ◌∙◌}
use Rattle.eth_frames.specs.Ethernet as eth
use Rattle.fip_codec.specs.Message as fip
use Rattle.heard_frames.specs.Heard.{Fip}
use Rattle.fab_policy.specs.Rules.{fip_login_rows}
use Rattle.fab_policy.specs.Verdicts.{fip_judged}
use Rattle.fab_judge.specs.Rows.{unless_dropped}
use Rattle.fab_judge.proofs.CommandLemmas.{flogi_is}
use Rattle.fab_judge.proofs.JudgedLemmas.{login_values}
use Rattle.fab_judge.proofs.fip.judge_fip.Goals as goal

pub returns-in_ok-judged-in-Login-clause-judged : goal.returns-in_ok-judged-in-Login-clause-judged
returns-in_ok-judged-in-Login-clause-judged c =
    let C = c.args.config.now in
    let T = c.args.roster.now.tables in
    let port = c.args.from.now.port in
    let caught = c.args.from.now.caught in
    c.in_ok-judged-in-Login.ensures.judged
    ∙ ap (λ m. unless_dropped (fip_login_rows C T port caught (fip.view m)) (fip_judged C T port caught (fip.view m))) (sym c.in-Login.is)

pub returns-in_ok-judged-in-Login-clause-grounds : goal.returns-in_ok-judged-in-Login-clause-grounds
returns-in_ok-judged-in-Login-clause-grounds c =
    let caught = c.args.from.now.caught in
    let l = c.in-Login.frame.now in
    let f = eth.view c.args.eth.now in
    let message = c.requires ∙ ap (λ m. Fip f (fip.view m)) c.in-Login.is in
    let login = c.frames_are_carried.ensures.login caught f c.in-Login.kind c.in-Login.fp l c.in-Login.mac message in
    rw (flogi_is caught c.in-Login.kind l login.0, login.1) c.in_ok-judged-in-Login.ensures.grounds

pub returns-in_ok-judged-in-Login-clause-values : goal.returns-in_ok-judged-in-Login-clause-values
returns-in_ok-judged-in-Login-clause-values c =
    let caught = c.args.from.now.caught in
    let l = c.in-Login.frame.now in
    let f = eth.view c.args.eth.now in
    let message = c.requires ∙ ap (λ m. Fip f (fip.view m)) c.in-Login.is in
    let login = c.frames_are_carried.ensures.login caught f c.in-Login.kind c.in-Login.fp l c.in-Login.mac message in
    login_values c.args.from.now.port caught c.in-Login.kind l login.0 c.in_ok-judged-in-Login.judged c.in_ok-judged-in-Login.ensures.kind
