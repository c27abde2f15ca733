use Rattle.std.proofs.Common.{sym, ◌∙◌}
use Rattle.fc_frames.specs.Frame.{view as fc_view}
use Rattle.fab_judge.proofs.services.judge_service.Goals as goal

pub returns-then-is_to_names-clause-judged : goal.returns-then-is_to_names-clause-judged
returns-then-is_to_names-clause-judged c = λ c' T p login.
    let f = fc_view c.args.frame.now in
    c.to_name_server.ensures.judged c' T p f login (sym c.is_to_names.ensures ∙ c.if-is_to_names.true) c.in-Ok.ensures.value
    ∙ sym (rw (c.requires, c.in-Ok.ensures.exact))

pub returns-then-is_to_names-clause-grounds : goal.returns-then-is_to_names-clause-grounds
returns-then-is_to_names-clause-grounds c = λ c' T x flogi live to. c.to_name_server.ensures.grounds c' T x flogi (fc_view c.args.frame.now) live to c.in-Ok.ensures.grammar

pub returns-else-is_to_names-clause-judged : goal.returns-else-is_to_names-clause-judged
returns-else-is_to_names-clause-judged c = λ c' T p login.
    let f = fc_view c.args.frame.now in
    c.to_controller.ensures.judged c' T p f (sym c.is_to_names.ensures ∙ c.if-is_to_names.false) c.in-Ok.ensures.value
    ∙ sym (rw (c.requires, c.in-Ok.ensures.exact))

pub returns-else-is_to_names-clause-grounds : goal.returns-else-is_to_names-clause-grounds
returns-else-is_to_names-clause-grounds c = λ c' T x flogi live to. c.to_controller.ensures.grounds c' T x flogi (fc_view c.args.frame.now) live to
