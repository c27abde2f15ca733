use Rattle.std.proofs.Common.{sym, not, ◌&&◌, ◌∙◌, ap}
use Rattle.std.proofs.lemmas.Bool.{lt-ltb, not-false}
use Rattle.fab_policy.specs.Rules.{SERVICES, is_service}
use Rattle.fab_policy.specs.State.{port_at}
use Rattle.fab_roster.specs.Roll.{login_of}
use Rattle.fab_judge.proofs.RowLemmas.{there, no_service, is_here}
use Rattle.fab_judge.proofs.fcoe.judge_sent.Goals as goal

pub returns-then-value-lt-SERVICES-clause-judged : goal.returns-then-value-lt-SERVICES-clause-judged
returns-then-value-lt-SERVICES-clause-judged c = λ f.
    let head = c.args.body.now.frame.head in
    let from = port_at head.s_id c.args.roster.now.tables.ports in
    let low = rw c.value.ensures.value at (lt-ltb c.value.result SERVICES c.if-value-lt-SERVICES.true) in
    let service = no_service head.d_id low in
    c.judge_data.ensures.judged f
    ∙ sym (rw (
      there login_of from c.in-Some.login.now (sym c.in-Some.ensures),
      is_here from c.in-Some.login.now c.args.port (sym c.in-Some.ensures) (not-false _ (sym c.ne.ensures ∙ c.if-ne.false)),
      ap (λ b. not b && not (is_service head.d_id)) low,
      service,
      service,
      service,
    ))

pub returns-in-Ok-clause-judged : goal.returns-in-Ok-clause-judged
returns-in-Ok-clause-judged c = λ f.
    let from = port_at c.args.body.now.frame.head.s_id c.args.roster.now.tables.ports in
    c.in-Ok.ensures.judged f
    ∙ sym (rw (
      there login_of from c.in-Some.login.now (sym c.in-Some.ensures),
      is_here from c.in-Some.login.now c.args.port (sym c.in-Some.ensures) (not-false _ (sym c.ne.ensures ∙ c.if-ne.false)),
    ))

pub returns-then-value-lt-SERVICES-clause-grounds : goal.returns-then-value-lt-SERVICES-clause-grounds
returns-then-value-lt-SERVICES-clause-grounds c = λ x flogi to. c.judge_data.ensures.grounds x flogi
