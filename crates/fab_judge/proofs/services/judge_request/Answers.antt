use Rattle.std.proofs.Common.{sym, ◌∙◌}
use Rattle.fcoe_codec.specs.Fcoe.{view as fcoe_view}
use Rattle.fab_policy.specs.State.{port_at}
use Rattle.fab_roster.specs.Roll.{login_of}
use Rattle.fab_policy.specs.Verdicts.{fcoe_judged, service_judged}
use Rattle.fab_judge.proofs.RowLemmas.{there, no_ct, by_found}
use Rattle.fab_judge.proofs.services.judge_request.Goals as goal

pub returns-then-is_els_request-clause-judged : goal.returns-then-is_els_request-clause-judged
returns-then-is_els_request-clause-judged c = λ f.
    let T = c.args.roster.now.tables in
    let x = fcoe_view c.args.body.now in
    let request = sym c.is_els_request.ensures ∙ c.if-is_els_request.true in
    by_found (port_at x.frame.head.s_id T.ports) c.args.login.now c.requires.live λ p at is.
    c.judge_service.ensures.judged c.args.config.now T p is
    ∙ sym (rw (
      fcoe_judged,
      c.requires.service,
      sym c.is_service.ensures ∙ c.if-not-is_service.false,
      sym c.is_for_service.ensures ∙ c.if-not-is_for_service.false,
      no_ct x.frame request,
      service_judged,
      at,
      sym c.is_els_reply.ensures ∙ c.if-is_els_reply.false,
      request,
    ))

pub returns-then-is_els_request-clause-grounds : goal.returns-then-is_els_request-clause-grounds
returns-then-is_els_request-clause-grounds c = λ x flogi to.
    c.judge_service.ensures.grounds c.args.config.now c.args.roster.now.tables x flogi
    (there login_of (port_at c.args.body.now.frame.head.s_id c.args.roster.now.tables.ports) c.args.login.now c.requires.live) to
