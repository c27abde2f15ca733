use Rattle.heard_frames.specs.Heard.{sender}
use Rattle.fab_judge.specs.Origin.{is_flogi_by}
use Rattle.fab_judge.proofs.logins.judge_request.Goals as goal

pub returns-clause-grounds : goal.returns-clause-grounds
returns-clause-grounds c = λ f parms to.
    c.in_ok-judged.ensures.grounds (sender c.args.from.now.port c.args.from.now.caught) (is_flogi_by c.args.asked.now.kind c.args.from.now.caught) f c.request_of-request.ensures parms to
